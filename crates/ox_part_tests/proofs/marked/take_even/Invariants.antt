use Rattle.std.proofs.Common.{◌≡◌}
use Rattle.std.specs.Ordering.{nat_cmp}
use Rattle.ox_marked.specs.Marked.{mark_in}
use Rattle.ox_part_tests.proofs.marked.take_even.Given as goal

abbrev pub invariant-loop-half : goal.invariant-loop-half
invariant-loop-half g l = mark_in nat_cmp l.map ≡ mark_in nat_cmp l.fn.map
