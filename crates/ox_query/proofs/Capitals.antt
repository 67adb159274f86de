-- Digits without a capital letter are those that are printed.
use Rattle.std.proofs.Common.{◌≡◌, ℕ, zero, suc, ◌+◌, ◌*◌, ◌/◌, ◌%◌, ◌<◌, ◌==◌, Bool, true, false, ◌&&◌, ◌||◌, inl, inr, List, [], ◌∷◌, slice_index, Option, Some, None, Result, Ok, Err, refl, sym, ap, ap₂, ◌∙◌, arith, eqb-true}
use Rattle.std.specs.Prelude.{nat_le}
use Rattle.std.specs.List.{list_any}
use Rattle.std.specs.Result.{result_unwrap_or}
use Rattle.std.proofs.lemmas.Bool.{and_parts, or_parts, cases_lt}
use Rattle.hex.specs.Hex.{decode_pairs, digit_or_error, hex_digit_value, encode_lower, encode_with, lower_digits, pair_value, value_at, ◌>>=◌}
use Rattle.hex.specs.declared.error.FromHexError.{FromHexError}

abbrev pub is_capital : ℕ → Bool
is_capital c = nat_le 65 c && nat_le c 90

-- ---- what is printed has no capital

small_at : (t : List ℕ) (d : ℕ) → list_any is_capital t ≡ false → is_capital (slice_index t d) ≡ false
small_at [] d h = refl
small_at (c ∷ t) zero h = (or_parts (is_capital c) (list_any is_capital t) h).0
small_at (c ∷ t) (suc d) h = small_at t d (or_parts (is_capital c) (list_any is_capital t) h).1

small_digit : (d : ℕ) → is_capital (slice_index lower_digits d) ≡ false
small_digit d = small_at lower_digits d refl

pub printed_small : (bytes : List ℕ) → list_any is_capital (encode_lower bytes) ≡ false
unfolding encode_with
printed_small [] = refl
printed_small (b ∷ bytes) = ap₂ ◌||◌ (small_digit (b / 16)) (ap₂ ◌||◌ (small_digit (b % 16)) (printed_small bytes))

-- ---- a digit that isn't a capital is printed for its value

-- whether the digit c, of the value that it has, is a capital or printed for that value
abbrev is_printed : ℕ → Option ℕ → Bool
is_printed c (Some v) = is_capital c || (slice_index lower_digits v == c)
is_printed c None = true

-- the test of all below n, which computes
abbrev all_printed : ℕ → Bool
all_printed zero = true
all_printed (suc n) = is_printed n (hex_digit_value n) && all_printed n

printed_below : (n c : ℕ) → all_printed n ≡ true → c < n → is_printed c (hex_digit_value c) ≡ true
printed_below zero c h lt = absurd (omega arith)
printed_below (suc n) c h lt =
    let parts = and_parts (is_printed n (hex_digit_value n)) (all_printed n) h in
    elim (cases_lt c n) [
      | inl below ↦ printed_below n c parts.1 below
      | inr top ↦
          let e : c ≡ n = omega arith in
          rw e parts.0
    ]

-- no digit is past `f`
digit_bound : (c v : ℕ) → hex_digit_value c ≡ Some v → c < 103
digit_bound c v h = grind (arith)

value_bound : (c v : ℕ) → hex_digit_value c ≡ Some v → v < 16
value_bound c v h = grind (arith)

digit_printed : (c v : ℕ) → hex_digit_value c ≡ Some v → is_capital c ≡ false → slice_index lower_digits v ≡ c
digit_printed c v h small =
    eqb-true (slice_index lower_digits v) c
    (ap (λ (b : Bool). b || (slice_index lower_digits v == c)) (sym small) ∙ ap (is_printed c) (sym h) ∙ printed_below 103 c refl (digit_bound c v h))

-- ---- pairs of digits

-- what an `Ok` after `>>=` shows
bind_ok : {A B : Type 0} (r : Result A FromHexError) (f : A → Result B FromHexError) (y : B)
    → (r >>= f) ≡ Ok y → (x : A) × (r ≡ Ok x) × (f x ≡ Ok y)
bind_ok (Ok x) f y h = (x, refl, h)
bind_ok (Err e) f y h = cc h

-- the value of a digit that read
digit_read : (c i : ℕ) (o : Option ℕ) (v : ℕ) → digit_or_error c i o ≡ Ok v → o ≡ Some v
digit_read c i (Some w) v h = ap Some (ap (λ (r : Result ℕ FromHexError). result_unwrap_or r 0) h)
digit_read c i None v h = cc h

pub pairs_printed : (i : ℕ) (s bytes : List ℕ) → decode_pairs i s ≡ Ok bytes → list_any is_capital s ≡ false → encode_lower bytes ≡ s
unfolding decode_pairs encode_with
pairs_printed i [] bytes h small =
    let e : [] ≡ bytes = ap (λ (r : Result (List ℕ) FromHexError). result_unwrap_or r []) h in
    rw (← e) refl
pairs_printed i (a ∷ []) bytes h small = cc h
pairs_printed i (a ∷ b ∷ rest) bytes h small =
    let p0 = bind_ok (pair_value a b i) _ bytes h in
    let p1 = bind_ok (value_at a i) _ p0.0 p0.1 in
    let p2 = bind_ok (value_at b (i + 1)) _ p0.0 p1.2 in
    let p3 = bind_ok (decode_pairs (i + 2) rest) _ bytes p0.2 in
    let e : p0.0 ∷ p3.0 ≡ bytes = ap (λ (r : Result (List ℕ) FromHexError). result_unwrap_or r []) p3.2 in
    let byte : p1.0 * 16 + p2.0 ≡ p0.0 = ap (λ (r : Result ℕ FromHexError). result_unwrap_or r 0) p2.2 in
    let first = or_parts (is_capital a) (is_capital b || list_any is_capital rest) small in
    let second = or_parts (is_capital b) (list_any is_capital rest) first.1 in
    let va = digit_read a i (hex_digit_value a) p1.0 p1.1 in
    let vb = digit_read b (i + 1) (hex_digit_value b) p2.0 p2.1 in
    let low = value_bound b p2.0 vb in
    let high_is : p0.0 / 16 ≡ p1.0 = omega (arith, byte, low) in
    let low_is : p0.0 % 16 ≡ p2.0 = omega (arith, byte, low) in
    ap encode_lower (sym e)
    ∙ ap₂ ◌∷◌ (ap (slice_index lower_digits) high_is ∙ digit_printed a p1.0 va first.0)
    (ap₂ ◌∷◌ (ap (slice_index lower_digits) low_is ∙ digit_printed b p2.0 vb second.0)
    (pairs_printed (i + 2) rest p3.0 p3.1 second.1))
