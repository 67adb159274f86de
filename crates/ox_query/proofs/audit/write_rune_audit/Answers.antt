use Rattle.ox_query.proofs.Steps.{◌▸◌}
use Rattle.ox_query.proofs.audit.write_rune_audit.Goals as goal

pub returns : goal.returns
returns c =
    c.begin_object.ensures
    ▸ c.key.ensures ▸ c.write_amount.ensures
    ▸ c.key-2.ensures ▸ c.write_amount-2.ensures
    ▸ c.key-3.ensures ▸ c.write_rune_id.ensures
    ▸ c.key-4.ensures ▸ c.write_amount-3.ensures
    ▸ c.key-5.ensures ▸ c.write_amount-4.ensures
    ▸ c.end_object.ensures
