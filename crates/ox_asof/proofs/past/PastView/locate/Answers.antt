use Rattle.std.proofs.Common.{◌∙◌, ℕ, length, ap, sym}
use Rattle.ox_asof.specs.Places.{place_by}
use Rattle.ox_asof.proofs.Ending.{outputs_rise}
use Rattle.ox_asof.proofs.Whereabouts.{places_were}
use Rattle.ox_asof.proofs.past.PastView.locate.Goals as goal

pub place_by-requires : goal.place_by-requires
place_by-requires g c =
    let past = c.args.self.now in
    outputs_rise (g.V.View.chain past.view.now) (g.V.View.index past.view.now) past.undone past.end

pub returns : goal.returns
returns g c =
    let past = c.args.self.now in
    let index = g.V.View.index past.view.now in
    c.place_by.ensures
    ∙ ap (λ (n : ℕ). place_by past.undone n c.args.sat c.locate-place.result) c.lost.ensures
    ∙ ap (place_by past.undone (length index.lost) c.args.sat) c.locate-place.ensures
    ∙ sym (places_were (g.V.View.chain past.view.now) index past.undone c.args.sat (g.met.V.View.sound past.view.now) past.end)
