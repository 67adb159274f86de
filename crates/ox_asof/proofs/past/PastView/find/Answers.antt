use Rattle.std.proofs.Common.{◌∙◌, ap}
use Rattle.ox_asof.specs.Past.{number_below}
use Rattle.ox_asof.specs.Undone.{undone_by}
use Rattle.ox_asof.specs.declared.lengths.Lengths.{Lengths}
use Rattle.ox_asof.proofs.Numbering.{find_front}
use Rattle.ox_asof.proofs.Undoing.{inscriptions_front}
use Rattle.ox_asof.proofs.past.PastView.find.Goals as goal

pub returns : goal.returns
returns g c =
    let past = c.args.self.now in
    let index = g.V.View.index past.view.now in
    c.number_below.ensures ∙ ap (number_below past.lengths.inscriptions) c.find.ensures
    ∙ find_front (undone_by index past.undone).inscriptions index.inscriptions past.lengths.inscriptions c.args.id.now (inscriptions_front index past.undone)
    (ap (λ (l : Lengths). l.inscriptions) past.counted)
