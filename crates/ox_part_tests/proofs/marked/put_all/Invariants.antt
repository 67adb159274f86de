use Rattle.std.proofs.Common.{◌≡◌}
use Rattle.std.specs.Ordering.{nat_cmp}
use Rattle.ox_marked.specs.Marked.{mark_in}
use Rattle.ox_part_tests.proofs.marked.put_all.Given as goal

abbrev pub invariant-loop-key : goal.invariant-loop-key
invariant-loop-key g l = mark_in nat_cmp l.map ≡ mark_in nat_cmp l.fn.map
