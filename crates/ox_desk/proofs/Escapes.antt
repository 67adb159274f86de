-- What replies to commands tell needs no escape in JSON.
use Rattle.std.proofs.Common.{◌≡◌, ◌<◌, ◌+◌, ◌/◌, ◌%◌, ◌^◌, ◌==◌, ℕ, zero, suc, Bool, true, not, ◌&&◌, ◌||◌, List, [], ◌∷◌, ◌++◌, reverse, slice_index, refl, sym, ap, ap₂, ◌∙◌, arith, inl, inr}
use Rattle.std.specs.Prelude.{nat_le, decimal, bytes_eq}
use Rattle.std.specs.List.{list_all}
use Rattle.std.proofs.lemmas.Bool.{and_parts, cases_lt}
use Rattle.std.proofs.lemmas.Fmt.{decimal_by_steps}
use Rattle.std.proofs.lemmas.Slice.Eq.{bytes_eq-Decides}
use Rattle.hex.specs.Hex.{IsBytes, encode_lower, encode_with, lower_digits}
use Rattle.json.specs.Print.{escape, escape_byte}
use Rattle.ox_envelope.proofs.IdLemmas.{IsBytes-reverse}
use Rattle.ox_rules.specs.Text.{hash_text}
use Rattle.ox_desk.specs.Plain.{IsPlain}

-- a digit of decimal or hexadecimal numbers, a space or a colon
abbrev pub is_told : ℕ → Bool
is_told c = (nat_le 48 c && nat_le c 57) || ((nat_le 97 c && nat_le c 102) || ((c == 32) || (c == 58)))

-- ---- tests of all numbers below one, which compute

module _ (test : ℕ → Bool) where
  abbrev passes_below : ℕ → Bool
  passes_below zero = true
  passes_below (suc n) = test n && passes_below n

  passes : (n c : ℕ) → passes_below n ≡ true → c < n → test c ≡ true
  passes zero c all lt = absurd (omega arith)
  passes (suc n) c all lt =
      let parts = and_parts (test n) (passes_below n) all in
      elim (cases_lt c n) [
        | inl below ↦ passes n c parts.1 below
        | inr top ↦
            let e : c ≡ n = omega arith in
            rw e parts.0
      ]

-- ---- one byte

abbrev is_kept : ℕ → Bool
is_kept c = not (is_told c) || bytes_eq (escape_byte c) (c ∷ [])

all_kept : passes_below is_kept 103 ≡ true
unfolding escape_byte
all_kept = refl

told_bound : (c : ℕ) → is_told c ≡ true → c < 103
told_bound c told = grind (arith)

plain : (c : ℕ) → is_told c ≡ true → escape_byte c ≡ c ∷ []
plain c told =
    (bytes_eq-Decides (escape_byte c) (c ∷ [])).0
    (ap (λ (b : Bool). not b || bytes_eq (escape_byte c) (c ∷ [])) (sym told) ∙ passes is_kept 103 c all_kept (told_bound c told))

-- ---- texts

abbrev pub is_told_text : List ℕ → Bool
is_told_text text = list_all is_told text

pub escape_told : (text : List ℕ) → is_told_text text ≡ true → escape text ≡ text
escape_told [] told = refl
escape_told (c ∷ text) told =
    let parts = and_parts (is_told c) (is_told_text text) told in
    ap₂ ◌++◌ (plain c parts.0) (escape_told text parts.1)

pub told_append : (x y : List ℕ) → is_told_text x ≡ true → is_told_text y ≡ true → is_told_text (x ++ y) ≡ true
told_append [] y first second = second
told_append (c ∷ x) y first second =
    let parts = and_parts (is_told c) (is_told_text x) first in
    ap₂ ◌&&◌ parts.0 (told_append x y parts.1 second)

told_hex_digit : (d : ℕ) → d < 16 → is_told (slice_index lower_digits d) ≡ true
told_hex_digit d small = passes (λ n. is_told (slice_index lower_digits n)) 16 d refl small

told_digit : (d : ℕ) → d < 10 → is_told (48 + d) ≡ true
told_digit d small = passes (λ n. is_told (48 + n)) 10 d refl small

pub told_hex : (bytes : List ℕ) → IsBytes bytes → is_told_text (encode_lower bytes) ≡ true
unfolding encode_with
told_hex [] are = refl
told_hex (b ∷ bytes) are =
    let high : b / 16 < 16 = omega (arith, are 0) in
    let low : b % 16 < 16 = omega arith in
    ap₂ ◌&&◌ (told_hex_digit (b / 16) high) (ap₂ ◌&&◌ (told_hex_digit (b % 16) low) (told_hex bytes (λ i. are (suc i))))

pub told_decimal : (n : ℕ) → n < 2 ^ 64 → is_told_text (decimal n) ≡ true
told_decimal =
    decimal_by_steps (λ n digits. is_told_text digits ≡ true)
    (λ n small. ap (λ (b : Bool). b && true) (told_digit n small))
    (λ n digits large told. told_append digits ((48 + n % 10) ∷ []) told (ap (λ (b : Bool). b && true) (told_digit (n % 10) (omega arith))))

told_hash : (hash : List ℕ) → IsBytes hash → is_told_text (hash_text hash) ≡ true
unfolding hash_text
told_hash hash are = told_hex (reverse hash) (IsBytes-reverse hash are)

-- ---- so no escape stands for them

pub plain_hash : (hash : List ℕ) → IsBytes hash → IsPlain (hash_text hash)
plain_hash hash are = escape_told (hash_text hash) (told_hash hash are)

pub plain_decimal : (n : ℕ) → n < 2 ^ 64 → IsPlain (decimal n)
plain_decimal n small = escape_told (decimal n) (told_decimal n small)
