use Rattle.std.proofs.Common.{◌*◌}
use Rattle.ox_outputs.specs.Table.{rows_in}
use Rattle.ox_part_tests.specs.Rising.{HoldBelow}
use Rattle.ox_part_tests.proofs.outputs.locating.filled.Given as goal

abbrev pub invariant-loop-number : goal.invariant-loop-number
invariant-loop-number g l = HoldBelow (2 * l.number) (rows_in l.table)
