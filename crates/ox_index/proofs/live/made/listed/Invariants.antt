use Rattle.std.proofs.Common.{◌≡◌, ◌++◌, length}
use Rattle.ox_index.proofs.live.made.listed.Given as goal

-- those so far and those that are left are all
abbrev pub invariant-loop-entry : goal.invariant-loop-entry
invariant-loop-entry l = l.list.items ++ l.table.entries ≡ l.fn.table.entries

abbrev pub decreases-loop-entry : goal.decreases-loop-entry
decreases-loop-entry l = length l.table.entries
