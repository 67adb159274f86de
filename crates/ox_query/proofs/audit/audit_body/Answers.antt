use Rattle.std.proofs.Common.{◌≡◌, IfOk, subst}
use Rattle.serde_json.specs.Written.{compact_text}
use Rattle.ox_model.specs.declared.audit.Audit.{Audit}
use Rattle.ox_replies.specs.Audits.{audit_tree}
use Rattle.ox_query.proofs.Arrays.{first_tree}
use Rattle.ox_query.proofs.audit.audit_body.Goals as goal

pub returns : goal.returns
returns g c =
    let tree = audit_tree c.in_ok-audit.audit in
    subst (λ (audit : Audit). IfOk c.into_bytes.result (λ body. body ≡ compact_text (audit_tree audit))) c.in_ok-audit.ensures
    (c.into_bytes.ensures tree (first_tree c.new-out.result c.write_audit.new.out tree c.new-out.ensures c.write_audit.ensures))
