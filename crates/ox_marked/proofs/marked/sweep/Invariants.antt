use Rattle.std.proofs.Common.{◌≡◌}
use Rattle.ox_marked.specs.Marked.{standing}
use Rattle.ox_marked.proofs.marked.sweep.Given as goal

abbrev pub invariant-loop-key : goal.invariant-loop-key
invariant-loop-key g l = (q : g.row.K.Denot) → standing g.K.Ord.cmp l.entries q ≡ standing g.K.Ord.cmp l.fn.entries q
