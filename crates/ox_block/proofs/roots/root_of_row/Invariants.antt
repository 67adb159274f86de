use Rattle.std.proofs.Common.{◌≡◌, ◌<◌, length}
use Rattle.ox_block.specs.Hashes.{root_of}
use Rattle.ox_block.proofs.roots.root_of_row.Given as goal

-- each row has the root of the first
abbrev pub invariant-rows : goal.invariant-rows
invariant-rows l = (0 < length l.row.items) × (root_of l.row.items ≡ root_of l.hashes)

abbrev pub decreases-rows : goal.decreases-rows
decreases-rows l = length l.row.items
