use Rattle.std.proofs.Common.{◌≡◌}
use Rattle.ox_part_tests.specs.Empty.{HoldNothing}
use Rattle.ox_part_tests.proofs.outputs.crowd.thin.Given as goal

abbrev pub invariant-loop-number : goal.invariant-loop-number
invariant-loop-number g l = record {
  rows : HoldNothing (g.O.OutTable.contents l.table);
  mark : g.O.OutTable.marked l.table ≡ g.O.OutTable.marked l.initial.table;
}
