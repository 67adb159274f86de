use Rattle.ox_gated.proofs.Walking.{stepped}
use Rattle.ox_gated.proofs.walker.Walker.next.Goals as goal

pub returns-clause-step : goal.returns-clause-step
returns-clause-step g c told body records walked =
    let e = c.in_ok-step.ensures.gate in
    stepped c.args.self.now c.in_ok-step.ensures.version body records (g.S.Site.seen c.args.site.now) walked g.S.Site c.record_here.new.site e.run.looks.nothing.files c.in_ok-step.step (e.here told) e.within c.pass.new.self c.pass.ensures
