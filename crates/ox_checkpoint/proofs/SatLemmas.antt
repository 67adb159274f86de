-- Satoshis that stand at most once each, all below a bound, are in range and few.
use Rattle.std.proofs.Common.{◌≡◌, ℕ, zero, suc, ◌+◌, ◌<◌, ◌≤◌, Bool, true, false, cond, List, [], ◌∷◌, length, get_or, refl, arith, inl, inr}
use Rattle.std.specs.Prelude.{◌==◌, nat_lt, All}
use Rattle.std.proofs.lemmas.Bool.{cases_lt, cond-true, cond-false, eq-eqb, le-ltb, lt-ltb, ne_eqb}
use Rattle.std.proofs.lemmas.List.Elements.{All-head, All-tail}
use Rattle.std.proofs.lemmas.List.Sums.{get_or-le-sum_by}
use Rattle.ox_block.specs.Spelling.{most_value}
use Rattle.ox_rules.specs.Outputs.{times}
use Rattle.ox_rows.specs.Fits.{AreSats}
use Rattle.ox_sound.proofs.TileLemmas.{times-cons}

-- each number below a bound stands at most once, and no other does
pub record AtMostOnce (bound : ℕ) (sats : List ℕ) : Type 0 where
  pub once : (sat : ℕ) → times sat sats ≤ cond (nat_lt sat bound) 1 0

-- how many are below a bound
count_below : ℕ → List ℕ → ℕ
count_below bound [] = 0
count_below bound (x ∷ xs) = cond (nat_lt x bound) 1 0 + count_below bound xs

none_below : (sats : List ℕ) → count_below 0 sats ≡ 0
unfolding count_below
none_below [] = refl
none_below (x ∷ xs) = let rest : count_below 0 xs ≡ 0 = none_below xs in let here : ◌≡◌ {A = ℕ} (cond (nat_lt x 0) 1 0) 0 = cond-false (nat_lt x 0) 1 0 (le-ltb x 0 (omega arith)) in omega (arith, rest, here)

one_further : (x bound : ℕ) → ◌≡◌ {A = ℕ} (cond (nat_lt x (suc bound)) 1 0) (cond (nat_lt x bound) 1 0 + cond (x == bound) 1 0)
one_further x bound =
    elim (cases_lt x bound) [
      | inl before ↦
          let next : ◌≡◌ {A = ℕ} (cond (nat_lt x (suc bound)) 1 0) 1 = cond-true (nat_lt x (suc bound)) 1 0 (lt-ltb x (suc bound) (omega (arith, before))) in
          let here : ◌≡◌ {A = ℕ} (cond (nat_lt x bound) 1 0) 1 = cond-true (nat_lt x bound) 1 0 (lt-ltb x bound before) in
          let same : ◌≡◌ {A = ℕ} (cond (x == bound) 1 0) 0 = cond-false (x == bound) 1 0 (ne_eqb x bound (λ is. absurd (omega (arith, before, is)))) in
          omega (arith, next, here, same)
      | inr from ↦
          let here : ◌≡◌ {A = ℕ} (cond (nat_lt x bound) 1 0) 0 = cond-false (nat_lt x bound) 1 0 (le-ltb x bound from) in
          elim (cases_lt bound x) [
            | inl behind ↦
                let next : ◌≡◌ {A = ℕ} (cond (nat_lt x (suc bound)) 1 0) 0 = cond-false (nat_lt x (suc bound)) 1 0 (le-ltb x (suc bound) (omega (arith, behind))) in
                let same : ◌≡◌ {A = ℕ} (cond (x == bound) 1 0) 0 = cond-false (x == bound) 1 0 (ne_eqb x bound (λ is. absurd (omega (arith, behind, is)))) in
                omega (arith, next, here, same)
            | inr upto ↦
                let next : ◌≡◌ {A = ℕ} (cond (nat_lt x (suc bound)) 1 0) 1 = cond-true (nat_lt x (suc bound)) 1 0 (lt-ltb x (suc bound) (omega (arith, upto))) in
                let same : ◌≡◌ {A = ℕ} (cond (x == bound) 1 0) 1 = cond-true (x == bound) 1 0 (eq-eqb x bound (omega (arith, from, upto))) in
                omega (arith, next, here, same)
          ]
    ]

next_below : (bound : ℕ) (sats : List ℕ) → count_below (suc bound) sats ≡ count_below bound sats + times bound sats
unfolding count_below
next_below bound [] = refl
next_below bound (x ∷ xs) =
    let rest : count_below (suc bound) xs ≡ count_below bound xs + times bound xs = next_below bound xs in
    let here : ◌≡◌ {A = ℕ} (cond (nat_lt x (suc bound)) 1 0) (cond (nat_lt x bound) 1 0 + cond (x == bound) 1 0) = one_further x bound in
    let more : times bound (x ∷ xs) ≡ cond (x == bound) 1 0 + times bound xs = times-cons bound x xs in
    omega (arith, rest, here, more)

few_below : (bound : ℕ) (sats : List ℕ) → ((sat : ℕ) → times sat sats ≤ 1) → count_below bound sats ≤ bound
few_below zero sats once = let none : count_below 0 sats ≡ 0 = none_below sats in omega (arith, none)
few_below (suc bound) sats once =
    let before : count_below bound sats ≤ bound = few_below bound sats once in
    let more : count_below (suc bound) sats ≡ count_below bound sats + times bound sats = next_below bound sats in
    let one : times bound sats ≤ 1 = once bound in
    omega (arith, before, more, one)

all_below : (bound : ℕ) (sats : List ℕ) → All (λ sat. sat < bound) sats → count_below bound sats ≡ length sats
unfolding count_below
all_below bound [] each = refl
all_below bound (x ∷ xs) each =
    let here : x < bound = All-head (λ sat. sat < bound) x xs each in
    let rest : count_below bound xs ≡ length xs = all_below bound xs (All-tail (λ sat. sat < bound) x xs each) in
    let one : ◌≡◌ {A = ℕ} (cond (nat_lt x bound) 1 0) 1 = cond-true (nat_lt x bound) 1 0 (lt-ltb x bound here) in
    omega (arith, rest, one)

there : (sats : List ℕ) (k d : ℕ) → k < length sats → 0 < times (get_or sats k d) sats
there sats k d h =
    let sat = get_or sats k d in
    let one : cond (sat == sat) 1 0 ≤ times sat sats = get_or-le-sum_by (λ s. cond (s == sat) 1 0) sats k d h in
    let same : ◌≡◌ {A = ℕ} (cond (sat == sat) 1 0) 1 = cond-true (sat == sat) 1 0 (eq-eqb sat sat refl) in
    omega (arith, one, same)

within : (bound : ℕ) (sats : List ℕ) → AtMostOnce bound sats → (k d : ℕ) → k < length sats → get_or sats k d < bound
within bound sats is k d h =
    let sat = get_or sats k d in
    let some : 0 < times sat sats = there sats k d h in
    let most : times sat sats ≤ cond (nat_lt sat bound) 1 0 = is.once sat in
    elim (cases_lt sat bound) [
      | inl before ↦ before
      | inr far ↦
          let none : ◌≡◌ {A = ℕ} (cond (nat_lt sat bound) 1 0) 0 = cond-false (nat_lt sat bound) 1 0 (le-ltb sat bound far) in
          absurd (omega (arith, some, most, none))
    ]

at_most : (b : Bool) → cond b 1 0 ≤ 1
at_most true = omega arith
at_most false = omega arith

pub are_sats : (bound : ℕ) (sats : List ℕ) → bound ≤ most_value → AtMostOnce bound sats → AreSats sats
are_sats bound sats few is =
    let each : All (λ sat. sat < bound) sats = within bound sats is in
    let single : (sat : ℕ) → times sat sats ≤ 1 = λ sat. let most : times sat sats ≤ cond (nat_lt sat bound) 1 0 = is.once sat in let one : cond (nat_lt sat bound) 1 0 ≤ 1 = at_most (nat_lt sat bound) in omega (arith, most, one) in
    let counted : count_below bound sats ≡ length sats = all_below bound sats each in
    let most : count_below bound sats ≤ bound = few_below bound sats single in record {
      below = λ k d h. let here : get_or sats k d < bound = each k d h in omega (arith, here, few);
      few = omega (arith, counted, most, few);
    }
