use Rattle.std.proofs.Common.{◌≡◌}
use Rattle.ox_part_tests.proofs.marked_list.set_even.Given as goal

abbrev pub invariant-loop-half : goal.invariant-loop-half
invariant-loop-half g l = l.list.mark ≡ l.fn.list.mark
