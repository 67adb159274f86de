use Rattle.std.proofs.Common.{◌≤◌, ℕ, ap, subst, ◌∙◌}
use Rattle.ox_address.specs.Passes.{value_of}
use Rattle.ox_address.proofs.Tables.{place, symbols-table, place-above}
use Rattle.ox_address.proofs.letters.symbol_at.Goals as goal

pub returns-then-letter-ge128 : goal.returns-then-letter-ge128
unfolding value_of
returns-then-letter-ge128 c =
    let P : ℕ → Type 0 = λ n. 32 ≤ place n in
    subst P c.lowered-letter.ensures (place-above c.lowered-letter.result c.if-letter-ge128.true)

pub returns-then-symbol-lt32 : goal.returns-then-symbol-lt32
unfolding value_of
returns-then-symbol-lt32 c =
    (c.if-symbol-lt32.true, symbols-table c.lowered-letter.result c.if-letter-ge128.false ∙ ap place c.lowered-letter.ensures)

pub returns-else-symbol-lt32 : goal.returns-else-symbol-lt32
unfolding value_of
returns-else-symbol-lt32 c =
    let P : ℕ → Type 0 = λ n. 32 ≤ n in
    subst P (symbols-table c.lowered-letter.result c.if-letter-ge128.false ∙ ap place c.lowered-letter.ensures) c.if-symbol-lt32.false
