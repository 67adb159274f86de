-- A table of the digits' values, tested place by place.
use Rattle.std.proofs.Common.{◌≡◌, ℕ, zero, suc, ◌<◌, ◌==◌, ◌&&◌, Bool, true, List, get_or, refl, arith, inl, inr}
use Rattle.std.proofs.lemmas.Bool.{and_parts, cases_lt, eqb-true}
use Rattle.ox_feed.specs.declared.digits.TheConstants.{VALUES}
use Rattle.ox_feed.specs.Digits.{digit_or_none}

-- the first n places hold the values of the digits
abbrev pub all_match : List ℕ → ℕ → Bool
all_match table zero = true
all_match table (suc n) = (get_or table n 0 == digit_or_none n) && all_match table n

-- a place below n passed the test
pub match-at : (table : List ℕ) (n c : ℕ) → all_match table n ≡ true → c < n → get_or table c 0 ≡ digit_or_none c
match-at table zero c all lt = absurd (omega arith)
match-at table (suc n) c all lt =
    let parts = and_parts (get_or table n 0 == digit_or_none n) (all_match table n) all in
    elim (cases_lt c n) [
      | inl below ↦ match-at table n c parts.1 below
      | inr top ↦ let e : c ≡ n = omega arith in rw e (eqb-true (get_or table n 0) (digit_or_none n) parts.0)
    ]

-- the value of a byte stands at its place
pub value-at : (c : ℕ) → c < 256 → get_or VALUES c 0 ≡ digit_or_none c
value-at c lt = match-at VALUES 256 c refl lt
