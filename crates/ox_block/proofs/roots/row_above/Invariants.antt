use Rattle.std.proofs.Common.{◌≡◌, ◌++◌, length}
use Rattle.ox_block.specs.Hashes.{next_row}
use Rattle.ox_block.proofs.roots.row_above.Given as goal

-- the pairs so far and those of the rest
abbrev pub invariant-loop-rest : goal.invariant-loop-rest
invariant-loop-rest l = l.above.items ++ next_row l.rest ≡ next_row l.row

abbrev pub decreases-loop-rest : goal.decreases-loop-rest
decreases-loop-rest l = length l.rest
