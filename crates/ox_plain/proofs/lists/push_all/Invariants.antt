use Rattle.std.proofs.Common.{◌≡◌, ◌++◌, take}
use Rattle.ox_plain.proofs.lists.push_all.Given as goal

abbrev pub invariant-loop-value : goal.invariant-loop-value
invariant-loop-value g l = l.list ≡ l.fn.list ++ take l.value-index l.tail
