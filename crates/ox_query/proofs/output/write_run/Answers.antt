use Rattle.ox_query.proofs.Steps.{◌▸◌}
use Rattle.ox_query.proofs.output.write_run.Goals as goal

pub returns : goal.returns
returns c =
    c.begin_array.ensures
    ▸ c.u64.ensures ▸ c.u64-2.ensures
    ▸ c.end_array.ensures
