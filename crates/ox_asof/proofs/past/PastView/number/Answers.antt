use Rattle.std.proofs.Common.{◌∙◌, ℤ, List, Some, length, sym, ap, arith, rules, w64, FitsSigned}
use Rattle.std.proofs.lemmas.Int.{to_z-of_z}
use Rattle.ox_inscribe.specs.Signed.{number_at}
use Rattle.ox_inscribe.specs.declared.row.InsRow.{InsRow}
use Rattle.ox_inscribe.proofs.SignedLaws.{number_shown}
use Rattle.ox_asof.specs.Undone.{undone_by}
use Rattle.ox_asof.proofs.Undoing.{inscriptions_front}
use Rattle.ox_asof.proofs.past.PastView.number.Goals as goal

pub number-requires : goal.number-requires
number-requires g c =
    let past = c.args.self.now in
    let front = inscriptions_front (g.V.View.index past.view.now) past.undone in
    omega (arith, front.within, c.requires)

pub returns : goal.returns
returns g c =
    let past = c.args.self.now in
    let index = g.V.View.index past.view.now in
    let jubilee = (g.V.View.chain past.view.now).jubilee in
    let front = inscriptions_front index past.undone in
    let fits : FitsSigned w64 c.number.result = search rules in
    ap (λ (rows : List InsRow). number_at jubilee rows c.args.n) front.is
    ∙ number_shown jubilee index.inscriptions c.args.n (length (undone_by index past.undone).inscriptions) c.requires
    ∙ c.number.ensures
    ∙ ap (λ (z : ℤ). Some z) (sym (to_z-of_z w64 c.number.result fits))
