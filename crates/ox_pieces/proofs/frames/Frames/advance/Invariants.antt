use Rattle.std.proofs.Common.{◌≤◌}
use Rattle.ox_outside.specs.Counts.{NoFault}
use Rattle.ox_outside.specs.Log.{Grows}
use Rattle.ox_outside.specs.Runs.{OnlyTalks}
use Rattle.ox_feed.specs.Feed.{Listens, bytes_left}
use Rattle.ox_pieces.specs.Frames.{Advances, hearings_left}
use Rattle.ox_pieces.proofs.frames.Frames.advance.Given as goal

abbrev pub invariant-loop-self : goal.invariant-loop-self
invariant-loop-self g l =
    Grows (Advances l.initial.self l.self) (g.S.Site.log l.initial.site) (g.S.Site.log l.site)
    × (bytes_left l.self ≤ bytes_left l.initial.self)
    × OnlyTalks g.S.Site (Listens l.initial.self) l.initial.site l.site
    × NoFault (g.S.Site.counts l.initial.site) (g.S.Site.counts l.site)

abbrev pub decreases-loop-self : goal.decreases-loop-self
decreases-loop-self g l = hearings_left l.self
