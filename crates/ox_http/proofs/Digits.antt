-- A number read digit by digit, up to a limit.
use Rattle.std.proofs.Common.{◌≡◌, ℕ, ◌+◌, ◌-◌, ◌*◌, ◌<◌, ◌≤◌, true, List, length, take, get_or, min, ap, sym, ◌∙◌, arith, nat_le}
use Rattle.std.proofs.lemmas.Bool.{and_parts, leb-true}
use Rattle.std.proofs.lemmas.Int.Digits.{digits_value_more}
use Rattle.std.proofs.lemmas.List.Sums.{AllPass-from_list_all}
use Rattle.std.proofs.lemmas.Str.{digit_value_digit}
use Rattle.std.specs.Char.{digit_value, is_ascii_digit}
use Rattle.std.specs.List.{list_all}
use Rattle.std.specs.Str.Parse.{digits_value}

capped : (v d n : ℕ) → n ≡ min v 4000001 → min (n * 10 + d) 4000001 ≡ min (v * 10 + d) 4000001
capped v d n h = omega arith

digit_is : (c : ℕ) → is_ascii_digit c ≡ true → (48 ≤ c) × (digit_value c ≡ c - 48)
digit_is c h =
    let parts = and_parts (nat_le 48 c) (nat_le c 57) h in
    let low = leb-true 48 c parts.0 in
    let high = leb-true c 57 parts.1 in
    let is : digit_value c + 48 ≡ c = digit_value_digit c (low, high) in
    (low, omega (arith, is))

-- a digit more
pub cap_step : (text : List ℕ) (i number : ℕ) → i < length text
    → list_all is_ascii_digit text ≡ true
    → number ≡ min (digits_value 10 (take i text)) 4000001
    → min (number * 10 + (get_or text i 0 - 48)) 4000001
    ≡ min (digits_value 10 (take (i + 1) text)) 4000001
cap_step text i number h all is =
    let digit = digit_is (get_or text i 0) (AllPass-from_list_all is_ascii_digit text all i 0 h) in
    capped (digits_value 10 (take i text)) (get_or text i 0 - 48) number is
    ∙ ap (λ d. min (digits_value 10 (take i text) * 10 + d) 4000001) (sym digit.1)
    ∙ ap (λ n. min n 4000001) (sym (digits_value_more 10 text i h))

-- each is at least the digit 0
pub digit_low : (text : List ℕ) (i : ℕ) → i < length text → list_all is_ascii_digit text ≡ true
    → 48 ≤ get_or text i 0
digit_low text i h all =
    (digit_is (get_or text i 0) (AllPass-from_list_all is_ascii_digit text all i 0 h)).0
