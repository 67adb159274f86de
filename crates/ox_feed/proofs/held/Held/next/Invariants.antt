use Rattle.std.proofs.Common.{◌≤◌}
use Rattle.ox_outside.specs.Counts.{NoFault}
use Rattle.ox_outside.specs.Runs.{OnlyTalks}
use Rattle.ox_outside.specs.Log.{Grows}
use Rattle.ox_feed.specs.Feed.{Listens, bytes_left}
use Rattle.ox_feed.specs.Held.{IsHeld, Waits, feed_of, hearings_left}
use Rattle.ox_feed.proofs.held.Held.next.Given as goal

abbrev pub invariant-loop-line : goal.invariant-loop-line
invariant-loop-line g l =
    IsHeld l.self
    × Grows (Waits (feed_of l.initial.self) (feed_of l.self)) (g.S.Site.log l.initial.site) (g.S.Site.log l.site)
    × (bytes_left (feed_of l.self) ≤ bytes_left (feed_of l.initial.self))
    × OnlyTalks g.S.Site (Listens (feed_of l.initial.self)) l.initial.site l.site
    × NoFault (g.S.Site.counts l.initial.site) (g.S.Site.counts l.site)

abbrev pub decreases-loop-line : goal.decreases-loop-line
decreases-loop-line g l = hearings_left l.self
