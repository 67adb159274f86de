use Rattle.std.proofs.Common.{◌≡◌}
use Rattle.ox_marked.specs.Marked.{standing}
use Rattle.ox_marked.proofs.marked.sweep_all.Given as goal

abbrev pub invariant-loop-changes : goal.invariant-loop-changes
invariant-loop-changes g l = (q : g.row.K.Denot) → standing g.K.Ord.cmp l.entries q ≡ standing g.K.Ord.cmp l.fn.entries q
