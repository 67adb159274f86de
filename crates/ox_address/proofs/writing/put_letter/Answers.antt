use Rattle.std.proofs.Common.{◌++◌, ◌∷◌, [], ◌+◌, ℕ, sym, subst, arith}
use Rattle.std.proofs.Math.ListN.{set}
use Rattle.ox_address.specs.Passes.{Wrote}
use Rattle.ox_address.proofs.Writes.{wrote-put}
use Rattle.ox_address.proofs.writing.put_letter.Goals as goal

pub returns : goal.returns
returns c = λ hrp symbols before wrote.
    let P : ℕ → Type 0 = λ a. Wrote hrp (symbols ++ c.args.symbol ∷ []) before (set c.args.into.now c.args.len a) (c.args.len + 1) in
    subst P (sym c.letter_at.ensures) (wrote-put hrp symbols before c.args.into.now c.args.len c.args.symbol (omega arith) wrote)
