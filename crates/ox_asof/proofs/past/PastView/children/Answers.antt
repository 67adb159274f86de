use Rattle.std.proofs.Common.{◌∙◌, ap, filter, nat_lt, arith}
use Rattle.ox_asof.specs.Undone.{undone_by}
use Rattle.ox_asof.specs.declared.lengths.Lengths.{Lengths}
use Rattle.ox_asof.proofs.Numbering.{children_front, children_rise}
use Rattle.ox_asof.proofs.Undoing.{inscriptions_front}
use Rattle.ox_asof.proofs.past.PastView.children.Goals as goal

pub children-requires : goal.children-requires
children-requires g c =
    let past = c.args.self.now in
    let front = inscriptions_front (g.V.View.index past.view.now) past.undone in
    omega (arith, front.within, c.requires)

pub numbers_below-requires : goal.numbers_below-requires
numbers_below-requires g c = children_rise (g.V.View.index c.args.self.now.view.now).inscriptions c.args.of c.children.result.now c.children.ensures

pub returns : goal.returns
returns g c =
    let past = c.args.self.now in
    let index = g.V.View.index past.view.now in
    c.numbers_below.ensures ∙ ap (filter (λ n. nat_lt n past.lengths.inscriptions)) c.children.ensures
    ∙ children_front (undone_by index past.undone).inscriptions index.inscriptions past.lengths.inscriptions c.args.of (inscriptions_front index past.undone)
    (ap (λ (l : Lengths). l.inscriptions) past.counted) c.requires
