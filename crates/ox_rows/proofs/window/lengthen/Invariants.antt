use Rattle.std.proofs.Common.{ℕ, List, true, ◌<◌}
use Rattle.ox_rows.specs.Coming.{IsAhead, Lengthens}
use Rattle.ox_rows.proofs.window.lengthen.Given as goal

-- what was ahead is ahead, and the source has less left
abbrev pub invariant-loop-source : goal.invariant-loop-source
invariant-loop-source g l = record {
  ahead : (all : List ℕ) → IsAhead (g.S.Source.comes l.fn.source l.fn.world) l.fn.bytes all → Lengthens (g.S.Source.comes l.source l.world) l.fn.bytes all true l.bytes;
  fell : g.S.Source.left l.source < g.S.Source.left l.fn.source;
  ready : g.S.Source.ready l.source l.world;
  went : g.S.Source.went l.fn.source l.fn.world l.source l.world;
}

abbrev pub decreases-loop-source : goal.decreases-loop-source
decreases-loop-source g l = g.S.Source.left l.source
