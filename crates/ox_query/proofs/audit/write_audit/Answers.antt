use Rattle.std.proofs.Common.{map}
use Rattle.serde_json.specs.Data.{array}
use Rattle.serde_json.specs.View.{items_of}
use Rattle.ox_replies.specs.Audits.{rune_audit_tree}
use Rattle.ox_query.specs.Written.{tokens_of}
use Rattle.ox_query.proofs.Steps.{same, ◌▸◌}
use Rattle.ox_query.proofs.audit.write_audit.Goals as goal

pub returns : goal.returns
returns c =
    c.begin_object.ensures
    ▸ c.key.ensures ▸ c.u64.ensures
    ▸ c.key-2.ensures ▸ c.u64-2.ensures
    ▸ c.key-3.ensures ▸ c.u64-3.ensures
    ▸ c.key-4.ensures ▸ same (λ runes. tokens_of (array (items_of (map rune_audit_tree runes)))) c.as_slice.ensures c.write_runes.ensures
    ▸ c.end_object.ensures
