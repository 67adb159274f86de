use Rattle.std.proofs.Common.{ℕ, List}
use Rattle.ox_rows.specs.Coming.{IsAhead}
use Rattle.ox_rows.proofs.next.next_by.Given as goal

-- what was ahead is ahead
abbrev pub invariant-loop-value : goal.invariant-loop-value
invariant-loop-value g l = record {
  ahead : (bytes : List ℕ) → IsAhead (g.S.Source.comes l.fn.source l.fn.world) l.fn.window bytes → IsAhead (g.S.Source.comes l.source l.world) l.window bytes;
  ready : g.S.Source.ready l.source l.world;
  went : g.S.Source.went l.fn.source l.fn.world l.source l.world;
}

abbrev pub decreases-loop-value : goal.decreases-loop-value
decreases-loop-value g l = g.S.Source.left l.source
