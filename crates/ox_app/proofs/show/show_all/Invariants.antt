use Rattle.std.proofs.Common.{length}
use Rattle.ox_outside.specs.Log.{Grows}
use Rattle.ox_app.proofs.Pieces.{HasShown}
use Rattle.ox_outside.specs.Runs.{OnlyTalks}
use Rattle.ox_app.specs.Show.{ShowsFront}
use Rattle.ox_outside.specs.Counts.{NoFault}
use Rattle.ox_app.proofs.show.show_all.Given as goal

abbrev pub invariant-loop-rest : goal.invariant-loop-rest
invariant-loop-rest g l =
    Grows (HasShown l.fn.bytes l.rest) (g.S.Site.log l.initial.site) (g.S.Site.log l.site)
    × OnlyTalks g.S.Site (ShowsFront l.fn.bytes) l.initial.site l.site
    × NoFault (g.S.Site.counts l.initial.site) (g.S.Site.counts l.site)

abbrev pub decreases-loop-rest : goal.decreases-loop-rest
decreases-loop-rest g l = length l.rest
