-- The tables, place by place.
use Rattle.std.proofs.Common.{◌≡◌, ℕ, ◌<◌, ◌≤◌, ◌^◌, true, get_or, refl, arith, eqb, ltb, inl, inr}
use Rattle.std.proofs.lemmas.Bool.{agree_below_at, eqb-true, ltb-true, cases_lt}
use Rattle.std.specs.Prelude.{◌==◌}
use Rattle.std.specs.List.{position_or_len}
use Rattle.std.proofs.lemmas.List.Sums.{passes_at_first}
use Rattle.ox_address.specs.declared.checksum.TheConstants.{GENERATORS}
use Rattle.ox_address.specs.declared.letters.TheConstants.{SYMBOLS}
use Rattle.ox_address.specs.Checksum.{generators}
use Rattle.ox_address.specs.Address.{letters, letter_of}

pub generators-table : (t : ℕ) → t < 32 → get_or GENERATORS t 0 ≡ generators t
unfolding generators
generators-table t low = eqb-true (get_or GENERATORS t 0) (generators t) (agree_below_at (λ n. eqb (get_or GENERATORS n 0) (generators n)) (λ n. true) 32 t refl low)

pub generators-below : (t : ℕ) → t < 32 → generators t < 2 ^ 30
unfolding generators
generators-below t low = ltb-true (generators t) (2 ^ 30) (agree_below_at (λ n. ltb (generators n) (2 ^ 30)) (λ n. true) 32 t refl low)

-- the place of a letter, or 32
abbrev pub place : ℕ → ℕ
place c = position_or_len (λ l. l == c) letters

pub symbols-table : (c : ℕ) → c < 128 → get_or SYMBOLS c 0 ≡ place c
symbols-table c low = eqb-true (get_or SYMBOLS c 0) (place c) (agree_below_at (λ n. eqb (get_or SYMBOLS n 0) (place n)) (λ n. true) 128 c refl low)

pub place-of : (s : ℕ) → s < 32 → place (letter_of s) ≡ s
unfolding letter_of
place-of s low = eqb-true (place (letter_of s)) s (agree_below_at (λ n. eqb (place (letter_of n)) n) (λ n. true) 32 s refl low)

pub letters-below : (s : ℕ) → s < 32 → letter_of s < 128
unfolding letter_of
letters-below s low = ltb-true (letter_of s) 128 (agree_below_at (λ n. ltb (letter_of n) 128) (λ n. true) 32 s refl low)

-- the letter at the place of a letter is that letter
pub place-is : (c : ℕ) → place c < 32 → letter_of (place c) ≡ c
unfolding letter_of
place-is c low = eqb-true (get_or letters (place c) 0) c (passes_at_first (λ l. l == c) letters 0 low)

pub place-above : (c : ℕ) → 128 ≤ c → 32 ≤ place c
place-above c high =
    elim (cases_lt (place c) 32) [
      | inl low ↦ absurd (omega (arith, place-is c low, letters-below (place c) low))
      | inr past ↦ past
    ]
