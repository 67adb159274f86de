use Rattle.ox_part_tests.specs.Empty.{HoldNothing}
use Rattle.ox_part_tests.proofs.outputs.crowd.fill.Given as goal

abbrev pub invariant-loop-number : goal.invariant-loop-number
invariant-loop-number g l = HoldNothing (g.O.OutTable.contents l.table)
