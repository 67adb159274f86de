use Rattle.std.proofs.Common.{◌∙◌, ℕ, ℤ, sym, ap, rules, Some, w64, FitsSigned}
use Rattle.std.proofs.lemmas.Int.{to_z-of_z}
use Rattle.ox_inscribe.specs.Signed.{number_at}
use Rattle.ox_index.proofs.live.LiveView.number.Goals as goal

pub returns : goal.returns
returns c =
    let parts = c.args.self.now.parts in
    let fits : FitsSigned w64 c.number.result = search rules in
    ap (λ (j : ℕ). number_at j parts.shelf.rows c.args.n) (sym parts.numbered)
    ∙ c.number.ensures
    ∙ ap (λ (z : ℤ). Some z) (sym (to_z-of_z w64 c.number.result fits))
