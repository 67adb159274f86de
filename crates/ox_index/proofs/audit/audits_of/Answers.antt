use Rattle.std.proofs.Common.{◌≡◌, ◌<◌, ◌+◌, List, ◌++◌, drop, length, sym, subst, arith}
use Rattle.std.specs.Prelude.{map}
use Rattle.ox_ledger.specs.Ledger.{runes_in}
use Rattle.ox_model.specs.declared.audit.RuneAudit.{RuneAudit}
use Rattle.ox_index.specs.Audits.{audit_of_rune}
use Rattle.ox_index.proofs.Audits.{one_more}
use Rattle.ox_index.proofs.audit.audits_of.Goals as goal

pub loop-n-preserved : goal.loop-n-preserved
loop-n-preserved c =
    let state = runes_in c.args.ledger.now in
    let told = audit_of_rune state.bal in
    let less : c.loop-n.n < length state.runes = omega (arith, c.loop-n-test.true, c.len-n-end.ensures) in
    subst (λ (audits : List RuneAudit). audits ++ map told (drop (c.loop-n.n + 1) state.runes) ≡ map told state.runes) (sym c.in_ok-push.ensures.ok)
    (one_more told state.runes c.loop-n.n c.loop-n.audits c.loop-n.invariant c.rune_audit.result less c.rune_audit.ensures)
