use Rattle.std.proofs.Common.{◌++◌, ◌∷◌, [], ℕ, sym, subst}
use Rattle.ox_address.specs.Passes.{SumIs}
use Rattle.ox_address.proofs.Writes.{sum-push}
use Rattle.ox_address.proofs.writing.put.Goals as goal

pub returns-clause-sum : goal.returns-clause-sum
returns-clause-sum c = λ hrp symbols is.
    let P : ℕ → Type 0 = λ m. SumIs hrp (symbols ++ c.args.symbol ∷ []) m in
    subst P (sym c.with_value-text.ensures.value) (sum-push hrp symbols _ c.args.symbol is)
