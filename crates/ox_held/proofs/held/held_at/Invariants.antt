use Rattle.std.proofs.Common.{drop}
use Rattle.ox_held.specs.Gathered.{Gathers}
use Rattle.ox_held.proofs.held.held_at.Given as goal

-- with what is left, it is all
abbrev pub invariant-loop-at : goal.invariant-loop-at
invariant-loop-at g l = Gathers (g.V.View.index l.live) l.places (drop l.at-index l.places) l.gathered
