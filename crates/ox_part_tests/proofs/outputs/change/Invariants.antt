use Rattle.std.proofs.Common.{◌≡◌}
use Rattle.ox_part_tests.specs.Empty.{HoldNothing}
use Rattle.ox_part_tests.proofs.outputs.change.Given as goal

abbrev pub invariant-loop-step : goal.invariant-loop-step
invariant-loop-step g l = record {
  rows : HoldNothing (g.O.OutTable.contents l.table);
  mark : g.O.OutTable.marked l.table ≡ g.O.OutTable.marked l.initial.table;
}
