use Rattle.std.proofs.Common.{◌+◌, ◌*◌, arith}
use Rattle.ox_outputs.specs.Table.{rows_in}
use Rattle.ox_part_tests.proofs.Rising.{hold_further}
use Rattle.ox_part_tests.proofs.outputs.locating.filled.Goals as goal

pub loop-number-preserved : goal.loop-number-preserved
loop-number-preserved g c =
    let number = c.loop-number.number in
    hold_further (rows_in c.put.new.table) (2 * c.from.result + 1) (2 * (number + 1)) (omega (arith, c.from.ensures)) c.put.ensures.below
