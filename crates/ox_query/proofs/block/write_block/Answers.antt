use Rattle.ox_query.proofs.Steps.{◌▸◌}
use Rattle.ox_query.proofs.block.write_block.Goals as goal

pub returns : goal.returns
returns c =
    c.begin_object.ensures
    ▸ c.key.ensures ▸ c.write_hash.ensures
    ▸ c.key-2.ensures ▸ c.u64.ensures
    ▸ c.end_object.ensures
