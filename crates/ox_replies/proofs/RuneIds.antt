-- A rune's id is read from its text.
use Rattle.std.proofs.Common.{◌≡◌, ℕ, zero, suc, ◌+◌, ◌<◌, ◌^◌, ◌==◌, Bool, true, false, cond, ◌&&◌, ltb, lt-ltb, eq-eqb, eqb-true, ltb-true, List, [], ◌∷◌, ◌++◌, length, get_or, take, drop, length-append, append_assoc, Some, None, decimal, bytes_eq, refl, sym, ap, ap₂, ◌∙◌, subst, arith}
use Rattle.std.specs.List.{before_first, after_first, position_or_len}
use Rattle.std.specs.Str.Parse.{AllDigits, digits_value}
use Rattle.std.proofs.lemmas.List.{get_or_append_left, get_or_at, take_at, drop_at, drop-drop}
use Rattle.std.proofs.lemmas.List.Sums.{position_or_len_is}
use Rattle.std.proofs.lemmas.Slice.Eq.{bytes_eq-Decides}
use Rattle.std.proofs.lemmas.Str.Parse.{digit_from_value}
use Rattle.std.proofs.lemmas.Fmt.{decimal_is_IsNumeral}
use Rattle.ox_runestone.specs.declared.stone.RuneId.{RuneId}
use Rattle.ox_replies.specs.Named.{rune_id_in, rune_id_text}
use Rattle.ox_replies.proofs.Halves.{first_half, second_half}
use Rattle.ox_replies.proofs.Read.{test_told}

-- a digit is no colon
no_colon : (c : ℕ) → c < 58 → (c == 58) ≡ false
no_colon c less = by (c == 58) refl
  where
    by : (v : Bool) → (c == 58) ≡ v → (c == 58) ≡ false
    by true e = let same : c ≡ 58 = eqb-true c 58 e in absurd (omega (arith, same, less))
    by false e = e

digit_at : (digits : List ℕ) (k : ℕ) → AllDigits 10 digits → k < length digits → get_or digits k 0 < 58
digit_at [] k all within = absurd (omega arith)
digit_at (c ∷ cs) zero all within = omega (arith, digit_from_value c all.0)
digit_at (c ∷ cs) (suc k) all within = digit_at cs k all.1 (omega arith)

module _ (digits rest : List ℕ) (all : AllDigits 10 digits) where
  colon_at : position_or_len (λ c. c == 58) (digits ++ 58 ∷ rest) ≡ length digits
  colon_at = position_or_len_is (λ c. c == 58) (digits ++ 58 ∷ rest) (length digits) 0 (rw length-append (omega arith))
      (λ k within. ap (λ c. c == 58) (get_or_append_left digits (58 ∷ rest) 0 k within) ∙ no_colon (get_or digits k 0) (digit_at digits k all within))
      (λ _. eq-eqb _ 58 (get_or_at digits 58 rest 0 (length digits) refl))

  in_front : before_first (λ c. c == 58) (digits ++ 58 ∷ rest) ≡ digits
  in_front = ap (λ n. take n (digits ++ 58 ∷ rest)) colon_at ∙ take_at digits (58 ∷ rest) (length digits) refl

  behind : after_first (λ c. c == 58) (digits ++ 58 ∷ rest) ≡ rest
  behind = ap (λ n. drop (n + 1) (digits ++ 58 ∷ rest)) colon_at
      ∙ sym (drop-drop 1 (length digits) (digits ++ 58 ∷ rest)) ∙ ap (drop 1) (drop_at digits (58 ∷ rest) (length digits) refl)

all_pass : (a b c : Bool) → a ≡ true → b ≡ true → c ≡ true → ((a && b) && c) ≡ true
all_pass a b c e f g = ap₂ (λ x y. (x && y) && c) e f ∙ g

pub parts : (id : RuneId) → rune_id_text id ≡ decimal id.block ++ 58 ∷ decimal id.tx
parts id = append_assoc (decimal id.block) (58 ∷ []) (decimal id.tx)

pub rune_id_written : (id : RuneId) → id.block < 2 ^ 64 → id.tx < 2 ^ 32 → rune_id_in (rune_id_text id) ≡ Some id
rune_id_written id block tx =
    let first = decimal_is_IsNumeral id.block block in
    let second = decimal_is_IsNumeral id.tx (omega (arith, tx)) in
    let height : digits_value 10 (before_first (λ c. c == 58) (rune_id_text id)) ≡ id.block =
    ap (digits_value 10) (ap (before_first (λ c. c == 58)) (parts id) ∙ in_front (decimal id.block) (decimal id.tx) first.0.1) ∙ first.1 in
    let place : digits_value 10 (after_first (λ c. c == 58) (rune_id_text id)) ≡ id.tx =
    ap (digits_value 10) (ap (after_first (λ c. c == 58)) (parts id) ∙ behind (decimal id.block) (decimal id.tx) first.0.1) ∙ second.1 in
    ap₂ (λ (b t : ℕ). let spelled : RuneId = record { block = b; tx = t } in
    cond ((ltb b (2 ^ 64) && ltb t (2 ^ 32)) && bytes_eq (rune_id_text id) (rune_id_text spelled)) (Some spelled) None) height place
    ∙ ap (λ v. cond v (Some id) None)
    (all_pass _ _ _ (lt-ltb id.block (2 ^ 64) block) (lt-ltb id.tx (2 ^ 32) tx) ((bytes_eq-Decides (rune_id_text id) (rune_id_text id)).1 refl))

module _ (text : List ℕ) (id : RuneId) (e : rune_id_in text ≡ Some id) where
  abbrev block : ℕ
  block = digits_value 10 (before_first (λ c. c == 58) text)

  abbrev tx : ℕ
  tx = digits_value 10 (after_first (λ c. c == 58) text)

  abbrev spelled : RuneId
  spelled = record { block = block; tx = tx }

  is : ((((ltb block (2 ^ 64) && ltb tx (2 ^ 32)) && bytes_eq text (rune_id_text spelled)) ≡ true) × (spelled ≡ id))
  is = test_told ((ltb block (2 ^ 64) && ltb tx (2 ^ 32)) && bytes_eq text (rune_id_text spelled)) spelled id e

  pub rune_id_read : text ≡ rune_id_text id
  rune_id_read =
      (bytes_eq-Decides text (rune_id_text spelled)).0 (second_half (ltb block (2 ^ 64) && ltb tx (2 ^ 32)) (bytes_eq text (rune_id_text spelled)) is.0)
      ∙ ap rune_id_text is.1

  pub rune_id_within : (id.block < 2 ^ 64) × (id.tx < 2 ^ 32)
  rune_id_within =
      let fits = first_half (ltb block (2 ^ 64) && ltb tx (2 ^ 32)) (bytes_eq text (rune_id_text spelled)) is.0 in
      subst (λ (x : RuneId). (x.block < 2 ^ 64) × (x.tx < 2 ^ 32)) is.1
      (ltb-true block (2 ^ 64) (first_half (ltb block (2 ^ 64)) (ltb tx (2 ^ 32)) fits), ltb-true tx (2 ^ 32) (second_half (ltb block (2 ^ 64)) (ltb tx (2 ^ 32)) fits))
