use Rattle.std.proofs.Common.{◌≡◌, Some}
use Rattle.std.specs.Prelude.{IsTrue}
use Rattle.ox_feed.specs.Feed.{bytes_left}
use Rattle.ox_gated.specs.Tail.{Holds}
use Rattle.ox_outside.specs.Counts.{NoFault}
use Rattle.ox_outside.specs.Log.{Grows}
use Rattle.ox_outside.specs.Runs.{Calls, LeavesOnly}
use Rattle.ox_pieces.specs.Stood.{stood_in}
use Rattle.ox_app.proofs.FollowMoments.{Survived}
use Rattle.ox_app.proofs.FollowState.{HasFollowed}
use Rattle.ox_app.proofs.follow.follow_frames.Given as goal

abbrev pub invariant-loop-next : goal.invariant-loop-next
invariant-loop-next g l =
    Grows (HasFollowed l.fn.follower.mine l.frames l.follower.mine) (g.S.Site.log l.fn.site) (g.S.Site.log l.site)
    × Calls g.S.Site l.fn.site l.site
    × (IsTrue (g.S.Site.told l.fn.site) → Holds g.S.Site l.follower.tail l.site)
    × (IsTrue (g.S.Site.told l.fn.site) → stood_in (g.S.Site.seen l.fn.site) ≡ Some l.fn.follower.mine → stood_in (g.S.Site.seen l.site) ≡ Some l.follower.mine)
    × (IsTrue (g.S.Site.told l.fn.site) → stood_in (g.S.Site.seen l.fn.site) ≡ Some l.fn.follower.mine → LeavesOnly g.S.Site l.fn.site l.site (Survived g.S.Site l.fn.follower.mine l.fn.site))
    × NoFault (g.S.Site.counts l.fn.site) (g.S.Site.counts l.site)

abbrev pub decreases-loop-next : goal.decreases-loop-next
decreases-loop-next g l = bytes_left l.frames
