-- What is read is what is written.
use Rattle.std.proofs.Common.{◌≡◌, ℕ, ◌+◌, ◌-◌, ◌<◌, ◌^◌, ◌==◌, inl, inr, Bool, true, false, cond, ◌&&◌, ltb, lt-ltb, eq-eqb, eqb-true, ltb-true, List, [], ◌∷◌, ◌++◌, length, get_or, take, drop, reverse, length-append, append_assoc, Some, None, is_some, Result, Ok, decimal, bytes_eq, refl, sym, ap, ap₂, ◌∙◌, subst, arith, true≢false, unwrap_or}
use Rattle.std.specs.List.{before_first, after_first, position_or_len, AllPass}
use Rattle.std.specs.Result.{result_unwrap_or}
use Rattle.std.specs.Str.Parse.{digits_value}
use Rattle.std.proofs.lemmas.Bool.{cases_lt}
use Rattle.std.proofs.lemmas.List.{get_or_append_left, get_or_at, get_or_past, get_or-reverse, length-reverse, reverse-reverse, take_at, drop_at, drop-drop}
use Rattle.std.proofs.lemmas.List.Sums.{position_or_len_is}
use Rattle.std.proofs.lemmas.Slice.Eq.{bytes_eq-Decides}
use Rattle.std.proofs.lemmas.Fmt.{decimal_is_IsNumeral}
use Rattle.hex.specs.Hex.{IsBytes, decode_of, encode_lower, is_hex_digit}
use Rattle.hex.specs.declared.error.FromHexError.{FromHexError}
use Rattle.hex.proofs.HexLemmas.{decode_of-encode_lower, decode_of-ok}
use Rattle.ox_block.specs.declared.block.OutPoint.{OutPoint}
use Rattle.ox_rules.specs.Text.{outpoint_text, hash_text}
use Rattle.ox_replies.specs.Texts.{number_in, outpoint_in}
use Rattle.ox_replies.proofs.Halves.{first_half, second_half}

-- what is test_told where a test passes
pub test_told : {A : Type 0} (test : Bool) (a b : A) → cond test (Some a) None ≡ Some b → (test ≡ true) × (a ≡ b)
test_told true a b e = (refl, ap (λ o. unwrap_or o a) e)
test_told false a b e = absurd (true≢false (sym (ap is_some e)))

pub number_written : (n : ℕ) → n < 2 ^ 64 → number_in (decimal n) ≡ Some n
number_written n h =
    let value : digits_value 10 (decimal n) ≡ n = (decimal_is_IsNumeral n h).1 in
    ap (λ v. cond (ltb v (2 ^ 64) && bytes_eq (decimal n) (decimal v)) (Some v) None) value
    ∙ ap₂ (λ a b. cond (a && b) (Some n) None) (lt-ltb n (2 ^ 64) h) ((bytes_eq-Decides (decimal n) (decimal n)).1 refl)

pub number_read : (text : List ℕ) (n : ℕ) → number_in text ≡ Some n → text ≡ decimal n
number_read text n e =
    let value = digits_value 10 text in
    let is = test_told (ltb value (2 ^ 64) && bytes_eq text (decimal value)) value n e in
    (bytes_eq-Decides text (decimal value)).0 (second_half (ltb value (2 ^ 64)) (bytes_eq text (decimal value)) is.0) ∙ ap decimal is.1

pub number_within : (text : List ℕ) (n : ℕ) → number_in text ≡ Some n → n < 2 ^ 64
number_within text n e =
    let value = digits_value 10 text in
    let is = test_told (ltb value (2 ^ 64) && bytes_eq text (decimal value)) value n e in
    subst (λ (v : ℕ). v < 2 ^ 64) is.1 (ltb-true value (2 ^ 64) (first_half (ltb value (2 ^ 64)) (bytes_eq text (decimal value)) is.0))

pub outpoint_read : (text : List ℕ) (at : OutPoint) → outpoint_in text ≡ Some at → text ≡ outpoint_text at
outpoint_read text at e =
    let txid = reverse (result_unwrap_or (decode_of (before_first (λ c. c == 58) text)) []) in
    let index = digits_value 10 (after_first (λ c. c == 58) text) in
    let spelled : OutPoint = record { txid = record { 0 = txid }; index = index } in
    let is = test_told (((length txid == 32) && ltb index (2 ^ 32)) && bytes_eq text (outpoint_text spelled)) spelled at e in
    (bytes_eq-Decides text (outpoint_text spelled)).0
    (second_half ((length txid == 32) && ltb index (2 ^ 32)) (bytes_eq text (outpoint_text spelled)) is.0)
    ∙ ap outpoint_text is.1

pub outpoint_within : (text : List ℕ) (at : OutPoint) → outpoint_in text ≡ Some at → (length at.txid.0 ≡ 32) × (at.index < 2 ^ 32)
outpoint_within text at e =
    let txid = reverse (result_unwrap_or (decode_of (before_first (λ c. c == 58) text)) []) in
    let index = digits_value 10 (after_first (λ c. c == 58) text) in
    let spelled : OutPoint = record { txid = record { 0 = txid }; index = index } in
    let is = test_told (((length txid == 32) && ltb index (2 ^ 32)) && bytes_eq text (outpoint_text spelled)) spelled at e in
    let fits = first_half ((length txid == 32) && ltb index (2 ^ 32)) (bytes_eq text (outpoint_text spelled)) is.0 in
    subst (λ (o : OutPoint). (length o.txid.0 ≡ 32) × (o.index < 2 ^ 32)) is.1
    (eqb-true (length txid) 32 (first_half (length txid == 32) (ltb index (2 ^ 32)) fits), ltb-true index (2 ^ 32) (second_half (length txid == 32) (ltb index (2 ^ 32)) fits))

reverse_bytes : (xs : List ℕ) → IsBytes xs → IsBytes (reverse xs)
reverse_bytes xs h i = elim (cases_lt i (length xs)) [
  | inl within ↦ subst (λ (x : ℕ). x < 256) (sym (get_or-reverse xs i 0 within)) (h (length xs - 1 - i))
  | inr past ↦ subst (λ (x : ℕ). x < 256) (sym (get_or_past (reverse xs) i 0 (omega (arith, past, length-reverse xs)))) (omega arith)
]

-- a hexadecimal digit is no colon
no_colon : (c : ℕ) → is_hex_digit c ≡ true → (c == 58) ≡ false
no_colon c h = by (c == 58) refl
  where
    by : (v : Bool) → (c == 58) ≡ v → (c == 58) ≡ false
    by true e = absurd (true≢false (sym (subst (λ x. is_hex_digit x ≡ true) (eqb-true c 58 e) h)))
    by false e = e

module _ (digits rest : List ℕ) (hexes : AllPass is_hex_digit digits) where
  colon_at : position_or_len (λ c. c == 58) (digits ++ 58 ∷ rest) ≡ length digits
  colon_at = position_or_len_is (λ c. c == 58) (digits ++ 58 ∷ rest) (length digits) 0 (rw length-append (omega arith))
      (λ k within. ap (λ c. c == 58) (get_or_append_left digits (58 ∷ rest) 0 k within) ∙ no_colon (get_or digits k 0) (hexes k 0 within))
      (λ _. eq-eqb _ 58 (get_or_at digits 58 rest 0 (length digits) refl))

  in_front : before_first (λ c. c == 58) (digits ++ 58 ∷ rest) ≡ digits
  in_front = ap (λ n. take n (digits ++ 58 ∷ rest)) colon_at ∙ take_at digits (58 ∷ rest) (length digits) refl

  behind : after_first (λ c. c == 58) (digits ++ 58 ∷ rest) ≡ rest
  behind = ap (λ n. drop (n + 1) (digits ++ 58 ∷ rest)) colon_at
      ∙ sym (drop-drop 1 (length digits) (digits ++ 58 ∷ rest)) ∙ ap (drop 1) (drop_at digits (58 ∷ rest) (length digits) refl)

both : (a b c : Bool) → a ≡ true → b ≡ true → c ≡ true → ((a && b) && c) ≡ true
both a b c e f g = ap₂ (λ x y. (x && y) && c) e f ∙ g

pub outpoint_written : (at : OutPoint) → length at.txid.0 ≡ 32 → IsBytes at.txid.0 → at.index < 2 ^ 32 → outpoint_in (outpoint_text at) ≡ Some at
unfolding outpoint_text hash_text
outpoint_written at long bytes small =
    let id = at.txid.0 in
    let digits = encode_lower (reverse id) in
    let decoded : decode_of digits ≡ Ok (reverse id) = decode_of-encode_lower (reverse id) (reverse_bytes id bytes) in
    let hexes : AllPass is_hex_digit digits = (decode_of-ok digits (reverse id) decoded).1 in
    let parts : outpoint_text at ≡ digits ++ 58 ∷ decimal at.index = append_assoc digits (58 ∷ []) (decimal at.index) in
    let txid : reverse (result_unwrap_or (decode_of (before_first (λ c. c == 58) (outpoint_text at))) []) ≡ id =
    ap (λ (d : List ℕ). reverse (result_unwrap_or (decode_of d) [])) (ap (before_first (λ c. c == 58)) parts ∙ in_front digits (decimal at.index) hexes)
    ∙ ap (λ (r : Result (List ℕ) FromHexError). reverse (result_unwrap_or r [])) decoded ∙ reverse-reverse id in
    let index : digits_value 10 (after_first (λ c. c == 58) (outpoint_text at)) ≡ at.index =
    ap (digits_value 10) (ap (after_first (λ c. c == 58)) parts ∙ behind digits (decimal at.index) hexes) ∙ (decimal_is_IsNumeral at.index (omega (arith, small))).1 in
    ap₂ (λ (t : List ℕ) (i : ℕ). let spelled : OutPoint = record { txid = record { 0 = t }; index = i } in
    cond (((length t == 32) && ltb i (2 ^ 32)) && bytes_eq (outpoint_text at) (outpoint_text spelled)) (Some spelled) None) txid index
    ∙ ap (λ v. cond v (Some at) None)
    (both _ _ _ (eq-eqb (length id) 32 long) (lt-ltb at.index (2 ^ 32) small) ((bytes_eq-Decides (outpoint_text at) (outpoint_text at)).1 refl))
