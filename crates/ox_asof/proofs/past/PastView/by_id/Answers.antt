use Rattle.std.proofs.Common.{◌∙◌, ap}
use Rattle.ox_asof.specs.Past.{number_below}
use Rattle.ox_asof.specs.Shown.{shown}
use Rattle.ox_asof.specs.Undone.{undone_by}
use Rattle.ox_asof.specs.declared.lengths.Lengths.{Lengths}
use Rattle.ox_asof.proofs.Numbering.{id_before}
use Rattle.ox_asof.proofs.Showing.{continues_shown}
use Rattle.ox_asof.proofs.past.PastView.by_id.Goals as goal

pub returns : goal.returns
returns g c =
    let past = c.args.self.now in
    let index = g.V.View.index past.view.now in
    c.number_below.ensures ∙ ap (number_below past.lengths.runes) c.by_id.ensures
    ∙ id_before (shown past.has_runes (undone_by index past.undone)).runes index.runes past.lengths.runes c.args.id (continues_shown past.has_runes index past.undone)
    (ap (λ (l : Lengths). l.runes) past.counted)
