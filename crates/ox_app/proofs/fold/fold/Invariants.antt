use Rattle.ox_outside.specs.Log.{Grows}
use Rattle.ox_feed.specs.Feed.{bytes_left}
use Rattle.ox_model.specs.Machine.{empty_machine, stack_of}
use Rattle.ox_index.specs.Chain.{stack_in}
use Rattle.ox_app.specs.Fold.{Anything, fold_depth}
use Rattle.ox_app.proofs.FeedState.{HasAnswered}
use Rattle.ox_outside.specs.Runs.{OnlyTalks}
use Rattle.ox_outside.specs.Counts.{NoFault}
use Rattle.ox_app.proofs.fold.fold.Given as goal

abbrev pub invariant-loop-chain : goal.invariant-loop-chain
invariant-loop-chain g l =
    Grows (HasAnswered (stack_of (empty_machine l.p fold_depth)) l.lines (stack_in l.chain)) (g.S.Site.log l.initial.site) (g.S.Site.log l.site)
    × OnlyTalks g.S.Site Anything l.initial.site l.site
    × NoFault (g.S.Site.counts l.initial.site) (g.S.Site.counts l.site)

abbrev pub decreases-loop-chain : goal.decreases-loop-chain
decreases-loop-chain g l = bytes_left l.lines
