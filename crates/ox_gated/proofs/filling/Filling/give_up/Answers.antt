use Rattle.std.proofs.Common.{sym, subst}
use Rattle.ox_gated.specs.Filling.{Poured, PoursOn, StaysShut}
use Rattle.ox_gated.proofs.BehindGate.{holds_again}
use Rattle.ox_gated.proofs.filling.Filling.give_up.Goals as goal

pub settle_beside-requires : goal.settle_beside-requires
settle_beside-requires g c = record { shut = λ told. subst (λ (p : Poured). StaysShut g.S.Site p.tail c.args.site.now) (sym c.self.view_is) (c.requires told) }

pub returns-clause-holds : goal.returns-clause-holds
returns-clause-holds g c told =
    let e = c.in_ok-settle_beside.ensures in
    let told_old = told in
    let tail = c.self.inside.tail in
    let shut : StaysShut g.S.Site tail c.args.site.now = subst (λ (p : Poured). StaysShut g.S.Site p.tail c.args.site.now) (sym c.self.view_is) (c.requires told) in
    holds_again g.S.Site tail c.settle_beside.new.site (e.pours.stays told_old) (e.settled told_old)

pub returns-clause-pours : goal.returns-clause-pours
returns-clause-pours g c = subst (λ (p : Poured). PoursOn g.S.Site p.tail c.args.site.now c.settle_beside.new.site) c.self.view_is c.in_ok-settle_beside.ensures.pours

pub returns-in_err-settle_beside-clause-pours : goal.returns-in_err-settle_beside-clause-pours
returns-in_err-settle_beside-clause-pours g c = subst (λ (p : Poured). PoursOn g.S.Site p.tail c.args.site.now c.settle_beside.new.site) c.self.view_is c.settle_beside.ensures.pours
