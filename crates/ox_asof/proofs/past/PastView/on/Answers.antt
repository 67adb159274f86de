use Rattle.std.proofs.Common.{◌∙◌, ap, filter, nat_lt}
use Rattle.ox_asof.specs.Undone.{undone_by}
use Rattle.ox_asof.specs.declared.lengths.Lengths.{Lengths}
use Rattle.ox_asof.proofs.Numbering.{on_front, on_rises}
use Rattle.ox_asof.proofs.Undoing.{inscriptions_front}
use Rattle.ox_asof.proofs.past.PastView.on.Goals as goal

pub numbers_below-requires : goal.numbers_below-requires
numbers_below-requires g c = on_rises (g.V.View.index c.args.self.now.view.now).inscriptions c.args.sat c.on.result.now c.on.ensures

pub returns : goal.returns
returns g c =
    let past = c.args.self.now in
    let index = g.V.View.index past.view.now in
    c.numbers_below.ensures ∙ ap (filter (λ n. nat_lt n past.lengths.inscriptions)) c.on.ensures
    ∙ on_front (undone_by index past.undone).inscriptions index.inscriptions past.lengths.inscriptions c.args.sat (inscriptions_front index past.undone)
    (ap (λ (l : Lengths). l.inscriptions) past.counted)
