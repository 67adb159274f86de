-- Bytes put one after another.
use Rattle.std.proofs.Common.{ℕ, ◌+◌, ◌≤◌, List, ◌++◌, ap, ◌∙◌, append_assoc, arith}
use Rattle.ox_bytes.specs.Place.{Space}
use Rattle.ox_http.specs.Written.{Puts}

-- two puts are one
pub Puts-then : {a b : List ℕ} {m n : ℕ} {x y z : Space ℕ} → Puts a m x y → Puts b n y z
    → Puts (a ++ b) (m + n) x z
Puts-then {a = a} {b = b} {x = x} first second = record {
  filled = second.filled ∙ ap (λ front. front ++ b) first.filled ∙ append_assoc x.filled a b;
  spare = omega arith;
}

-- room for more does no harm
pub Puts-most : {a : List ℕ} {m : ℕ} {x y : Space ℕ} → Puts a m x y → (n : ℕ) → m ≤ n → Puts a n x y
Puts-most put n h = record { filled = put.filled; spare = omega arith }
