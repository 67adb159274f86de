use Rattle.std.proofs.Common.{◌≡◌, ◌++◌, take}
use Rattle.ox_plain.proofs.lists.push_again.Given as goal

abbrev pub invariant-loop-row : goal.invariant-loop-row
invariant-loop-row g l = l.list ≡ l.fn.list ++ take l.row-index l.tail
