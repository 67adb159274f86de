use Rattle.std.proofs.Common.{◌≡◌, ◌+◌, ◌≤◌, Ok, Some}
use Rattle.std.specs.Prelude.{IsTrue}
use Rattle.ox_outside.specs.Log.{Grows}
use Rattle.ox_feed.specs.Feed.{feed_limit, bytes_left}
use Rattle.ox_model.specs.Replies.{after_on, replies_on}
use Rattle.ox_files.specs.Stands.{stands}
use Rattle.ox_app.proofs.FeedState.{HasAnswered}
use Rattle.ox_app.specs.Headline.{Survives}
use Rattle.ox_outside.specs.Runs.{Calls, LeavesOnly}
use Rattle.ox_gated.specs.Tail.{Holds}
use Rattle.ox_outside.specs.Counts.{NoFault}
use Rattle.ox_app.proofs.apply.answer_feed.Given as goal

abbrev pub invariant-loop-lines : goal.invariant-loop-lines
invariant-loop-lines g l =
    Grows (HasAnswered l.fn.store.stack l.lines l.store.stack) (g.S.Site.log l.initial.site) (g.S.Site.log l.site)
    × Calls g.S.Site l.initial.site l.site
    × (IsTrue (g.S.Site.told l.initial.site) → Holds g.S.Site l.store.tail l.site)
    × (IsTrue (g.S.Site.told l.initial.site) → stands (g.S.Site.seen l.initial.site) ≡ Ok l.fn.store.stack → stands (g.S.Site.seen l.site) ≡ Ok l.store.stack)
    × (IsTrue (g.S.Site.told l.initial.site) → stands (g.S.Site.seen l.initial.site) ≡ Ok l.fn.store.stack
    → LeavesOnly g.S.Site l.initial.site l.site
    (λ r. Grows (λ events. Survives (replies_on l.fn.store.stack) (after_on l.fn.store.stack) events r.files) (g.S.Site.log l.initial.site) (Some r.log)))
    × (l.store.commands + bytes_left l.lines ≤ feed_limit)
    × NoFault (g.S.Site.counts l.initial.site) (g.S.Site.counts l.site)

abbrev pub decreases-loop-lines : goal.decreases-loop-lines
decreases-loop-lines g l = bytes_left l.lines
