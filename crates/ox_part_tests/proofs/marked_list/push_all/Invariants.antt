use Rattle.std.proofs.Common.{◌≡◌}
use Rattle.ox_part_tests.proofs.marked_list.push_all.Given as goal

abbrev pub invariant-loop-place : goal.invariant-loop-place
invariant-loop-place g l = l.list.mark ≡ l.fn.list.mark
