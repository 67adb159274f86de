use Rattle.std.proofs.Common.{◌≡◌, ◌∙◌, ℤ, length, sym, ap, arith, rules, Some, w64, FitsSigned}
use Rattle.std.proofs.lemmas.Int.{to_z-of_z}
use Rattle.std.proofs.lemmas.List.{length-take-le}
use Rattle.ox_inscribe.specs.Shelved.{Shelved}
use Rattle.ox_inscribe.specs.Signed.{number_at}
use Rattle.ox_inscribe.proofs.SignedLaws.{number_shown}
use Rattle.ox_inscribe.proofs.shelf.Shelf.number.Goals as goal

pub returns : goal.returns
returns c =
    let n = c.args.n in
    let all = c.self.inside.rows.rows in
    let shown = c.self.inside.shown in
    let seen : length c.args.self.now.rows ≡ shown = ap (λ (s : Shelved). length s.rows) (sym c.self.view_is) ∙ length-take-le shown all c.self.invariant.fits in
    let fits : FitsSigned w64 c.number.result = search rules in
    ap (λ (s : Shelved). number_at s.jubilee s.rows n) (sym c.self.view_is)
    ∙ number_shown c.self.inside.rows.jubilee all n shown (omega (arith, c.requires, seen))
    ∙ c.number.ensures
    ∙ ap (λ (z : ℤ). Some z) (sym (to_z-of_z w64 c.number.result fits))
