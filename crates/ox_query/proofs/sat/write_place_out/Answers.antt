use Rattle.ox_query.proofs.Steps.{◌▸◌}
use Rattle.ox_query.proofs.sat.write_place_out.Goals as goal

pub returns : goal.returns
returns c =
    c.begin_object.ensures
    ▸ c.key.ensures ▸ c.u64.ensures
    ▸ c.key-2.ensures ▸ c.write_outpoint.ensures
    ▸ c.end_object.ensures
