use Rattle.ox_outputs.specs.Table.{rows_in}
use Rattle.ox_part_tests.proofs.Rising.{none_hold_any}
use Rattle.ox_part_tests.proofs.outputs.locating.fresh.Goals as goal

pub returns : goal.returns
returns c = none_hold_any (rows_in c.new.result) 0 c.new.ensures.rows
