use Rattle.std.proofs.Common.{◌∙◌, arith}
use Rattle.ox_asof.specs.Undone.{undone_by}
use Rattle.ox_asof.proofs.Fronts.{get_whole}
use Rattle.ox_asof.proofs.Undoing.{inscriptions_front}
use Rattle.ox_asof.proofs.past.PastView.inscription.Goals as goal

pub inscription-requires : goal.inscription-requires
inscription-requires g c =
    let past = c.args.self.now in
    let front = inscriptions_front (g.V.View.index past.view.now) past.undone in
    omega (arith, front.within, c.requires)

pub returns : goal.returns
returns g c =
    let past = c.args.self.now in
    let index = g.V.View.index past.view.now in
    get_whole (undone_by index past.undone).inscriptions index.inscriptions c.args.n (inscriptions_front index past.undone) c.requires ∙ c.inscription.ensures
