use Rattle.std.proofs.Common.{length}
use Rattle.std.specs.FinMap.{from_entries}
use Rattle.ox_outputs.specs.Table.{rows_in}
use Rattle.ox_index.proofs.Emptying.{Parted}
use Rattle.ox_index.proofs.live.made.outputs_of.Given as goal

-- each row is placed or left
abbrev pub invariant-loop-at : goal.invariant-loop-at
invariant-loop-at l = Parted (from_entries l.fn.rows.entries) (rows_in l.outputs) l.rows.entries

abbrev pub decreases-loop-at : goal.decreases-loop-at
decreases-loop-at l = length l.rows.entries
