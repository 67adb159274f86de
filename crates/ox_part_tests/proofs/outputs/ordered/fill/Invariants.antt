use Rattle.ox_part_tests.specs.Empty.{HoldNothing}
use Rattle.ox_part_tests.proofs.outputs.ordered.fill.Given as goal

abbrev pub invariant-loop-step : goal.invariant-loop-step
invariant-loop-step g l = HoldNothing (g.O.OutTable.contents l.table)
