use Rattle.std.proofs.Common.{◌∙◌, ap}
use Rattle.ox_asof.specs.Past.{number_below}
use Rattle.ox_asof.specs.Shown.{shown}
use Rattle.ox_asof.specs.Undone.{undone_by}
use Rattle.ox_asof.specs.declared.lengths.Lengths.{Lengths}
use Rattle.ox_asof.proofs.Numbering.{name_before}
use Rattle.ox_asof.proofs.Showing.{continues_shown}
use Rattle.ox_asof.proofs.past.PastView.by_name.Goals as goal

pub returns : goal.returns
returns g c =
    let past = c.args.self.now in
    let index = g.V.View.index past.view.now in
    c.number_below.ensures ∙ ap (number_below past.lengths.runes) c.by_name.ensures
    ∙ name_before (shown past.has_runes (undone_by index past.undone)).runes index.runes past.lengths.runes c.args.name (continues_shown past.has_runes index past.undone)
    (ap (λ (l : Lengths). l.runes) past.counted)
