use Rattle.ox_query.proofs.Steps.{◌▸◌}
use Rattle.ox_query.proofs.sat.write_place_lost.Goals as goal

pub returns : goal.returns
returns c =
    c.begin_object.ensures
    ▸ c.key.ensures ▸ c.u64.ensures
    ▸ c.end_object.ensures
