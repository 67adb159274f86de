use Rattle.std.proofs.Common.{◌≡◌, ◌≤◌, drop, length}
use Rattle.ox_rules.specs.Differences.{with_rows}
use Rattle.ox_outputs.proofs.differing.place_all.Given as goal

-- the last rows are placed
abbrev pub invariant-loop-left : goal.invariant-loop-left
invariant-loop-left g l = record {
  within : l.left ≤ length l.list;
  rows : g.O.OutTable.contents l.table ≡ with_rows (g.O.OutTable.contents l.initial.table) (drop l.left l.list);
  mark : g.O.OutTable.marked l.table ≡ g.O.OutTable.marked l.initial.table;
}

abbrev pub decreases-loop-left : goal.decreases-loop-left
decreases-loop-left g l = l.left
