use Rattle.std.proofs.Common.{◌≡◌, ◌≤◌, drop, length}
use Rattle.ox_rules.specs.Differences.{without_rows}
use Rattle.ox_outputs.specs.Table.{rows_in, marked_in}
use Rattle.ox_outputs.proofs.outputs.Outputs.take_out.Given as goal

-- the last rows are out
abbrev pub invariant-loop-left : goal.invariant-loop-left
invariant-loop-left l = record {
  within : l.left ≤ length l.list;
  rows : rows_in l.self ≡ without_rows (rows_in l.initial.self) (drop l.left l.list);
  mark : marked_in l.self ≡ marked_in l.initial.self;
}

abbrev pub decreases-loop-left : goal.decreases-loop-left
decreases-loop-left l = l.left
