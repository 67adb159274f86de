use Rattle.ox_asof.specs.Shown.{shown}
use Rattle.ox_asof.specs.Undone.{undone_by}
use Rattle.ox_asof.proofs.Amounting.{burned_within, held_told, made_fits}
use Rattle.ox_asof.proofs.past.PastView.held.Goals as goal

pub held_of-requires-clause-fits : goal.held_of-requires-clause-fits
held_of-requires-clause-fits g c =
    let past = c.args.self.now in
    made_fits (g.V.View.chain past.view.now) (shown past.has_runes (undone_by (g.V.View.index past.view.now) past.undone)) past.sound c.args.n c.rune.result.now c.rune.ensures

pub held_of-requires-clause-burned : goal.held_of-requires-clause-burned
held_of-requires-clause-burned g c =
    let past = c.args.self.now in
    burned_within (g.V.View.chain past.view.now) (shown past.has_runes (undone_by (g.V.View.index past.view.now) past.undone)) past.sound c.args.n c.rune.result.now c.rune.ensures

pub returns : goal.returns
returns g c =
    let past = c.args.self.now in
    held_told (g.V.View.chain past.view.now) (shown past.has_runes (undone_by (g.V.View.index past.view.now) past.undone)) past.sound c.args.n c.rune.result.now c.rune.ensures c.held_of.result c.held_of.ensures
