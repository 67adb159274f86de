use Rattle.ox_feed.specs.Feed.{bytes_left, new_feed}
use Rattle.ox_outside.specs.Counts.{NoFault}
use Rattle.ox_outside.specs.Log.{Grows}
use Rattle.ox_outside.specs.Runs.{OnlyTalks}
use Rattle.ox_app.specs.Fold.{Anything}
use Rattle.ox_app.specs.OneFrame.{GoesOn}
use Rattle.ox_app.specs.Talks.{leader_party}
use Rattle.ox_app.proofs.lead.answer_frames.Given as goal

abbrev pub invariant-loop-status : goal.invariant-loop-status
invariant-loop-status g l =
    Grows (GoesOn (leader_party l.fn.leader) new_feed (leader_party l.fn.leader) l.frames) (g.S.Site.log l.initial.site) (g.S.Site.log l.site)
    × OnlyTalks g.S.Site Anything l.initial.site l.site
    × NoFault (g.S.Site.counts l.initial.site) (g.S.Site.counts l.site)

abbrev pub decreases-loop-status : goal.decreases-loop-status
decreases-loop-status g l = bytes_left l.frames
