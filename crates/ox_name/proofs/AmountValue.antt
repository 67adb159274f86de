-- The value of an amount's text.
use Rattle.std.proofs.Common.{◌≡◌, ℕ, zero, suc, ◌+◌, ◌-◌, ◌*◌, ◌/◌, ◌%◌, ◌^◌, ◌<◌, ◌≤◌, ◌==◌, List, [], ◌∷◌, ◌++◌, length, take, drop, get_or, refl, sym, ap, ◌∙◌, subst, arith, inl, inr, length-append, lit<}
use Rattle.std.proofs.Math.Nat.{pow-suc, div-le_self}
use Rattle.std.proofs.lemmas.Bool.{ne_eqb, eq-eqb, cases_lt}
use Rattle.std.proofs.lemmas.Fmt.{decimal_is_IsNumeral_wide}
use Rattle.std.proofs.lemmas.Nat.{mod_below, div-add-mod', pow-add}
use Rattle.std.proofs.lemmas.Str.{digit_value_digit}
use Rattle.std.proofs.lemmas.Str.Parse.{digit_at}
use Rattle.std.proofs.lemmas.List.{get_or_append_left, get_or_at, take_at, drop_at, drop-drop, take_all, drop_all}
use Rattle.std.proofs.lemmas.List.Sums.{position_or_len_is}
use Rattle.std.specs.Char.{digit_value}
use Rattle.std.specs.List.{position_or_len}
use Rattle.std.specs.Str.Parse.{digits_value, digits_value_after}
use Rattle.std.specs.Fmt.{decimal}
use Rattle.ox_name.specs.Amount.{decimals, amount_text, whole_in, decimals_in, SaysAmount}
use Rattle.ox_name.proofs.Decimals.{decimals-none, decimals-some, decimals-short, pointed-decimals, ten_pos, digit_below, text_whole}

shifted : (x d p : ℕ) → (x * 10 + d) * p ≡ x * (p * 10) + d * p
shifted x d p = omega arith

-- digits behind others
after-value : (x : ℕ) (cs : List ℕ) → digits_value_after 10 x cs ≡ x * 10 ^ length cs + digits_value_after 10 0 cs
after-value x [] = omega arith
after-value x (c ∷ cs) =
    let d : ℕ = digit_value c in
    let p : ℕ = 10 ^ length cs in
    let here : digits_value_after 10 (x * 10 + d) cs ≡ (x * 10 + d) * p + digits_value_after 10 0 cs = after-value (x * 10 + d) cs in
    let there : digits_value_after 10 (0 * 10 + d) cs ≡ (0 * 10 + d) * p + digits_value_after 10 0 cs = after-value (0 * 10 + d) cs in
    let more : 10 ^ suc (length cs) ≡ p * 10 = pow-suc 10 (length cs) in
    let shift : (x * 10 + d) * p ≡ x * (p * 10) + d * p = shifted x d p in
    let none : (0 * 10 + d) * p ≡ d * p = ap (λ n. n * p) (let e : 0 * 10 + d ≡ d = omega arith in e) in
    let wide : x * 10 ^ suc (length cs) ≡ x * (p * 10) = ap (λ n. x * n) more in
    omega (arith, here, there, shift, none, wide)

digit_of : (q : ℕ) → q < 10 → digit_value (48 + q) ≡ q
digit_of q h = let d = digit_value_digit (48 + q) (omega arith, omega arith) in omega (arith, d)

tail_value : (q v l p : ℕ) → l ≤ p → (q * 10 ^ l + v) * 10 ^ (p - l) ≡ q * 10 ^ p + v * 10 ^ (p - l)
tail_value q v l p le =
    let e : p ≡ l + (p - l) = omega arith in
    let powers : 10 ^ p ≡ 10 ^ l * 10 ^ (p - l) = ap (λ n. 10 ^ n) e ∙ pow-add 10 l (p - l) in
    let spread : (q * 10 ^ l + v) * 10 ^ (p - l) ≡ q * (10 ^ l * 10 ^ (p - l)) + v * 10 ^ (p - l) = omega arith in
    spread ∙ ap (λ n. q * n + v * 10 ^ (p - l)) (sym powers)

-- the decimals stand for the part
pub decimals-value : (places part : ℕ) → part < 10 ^ places
    → digits_value 10 (decimals places part) * 10 ^ (places - length (decimals places part)) ≡ part
decimals-value zero part lt = omega arith
decimals-value (suc places) part lt =
    elim (cases_lt 0 part) [
      | inl some ↦
          let q : ℕ = part / 10 ^ places in
          let rest : ℕ = part % 10 ^ places in
          let ds : List ℕ = decimals places (part % 10 ^ places) in
          let digit : part / 10 ^ places < 10 = digit_below (10 ^ suc places) part places refl lt in
          let first : digits_value_after 10 (0 * 10 + digit_value (48 + part / 10 ^ places)) (decimals places (part % 10 ^ places)) ≡ digits_value_after 10 (part / 10 ^ places) (decimals places (part % 10 ^ places)) =
          ap (λ n. digits_value_after 10 n (decimals places (part % 10 ^ places))) (omega (arith, digit_of (part / 10 ^ places) digit)) in
          let value = after-value (part / 10 ^ places) (decimals places (part % 10 ^ places)) in
          let least = decimals-short places (part % 10 ^ places) in
          let places_left : suc places - length ((48 + part / 10 ^ places) ∷ decimals places (part % 10 ^ places)) ≡ places - length (decimals places (part % 10 ^ places)) = omega arith in
          let ih = decimals-value places (part % 10 ^ places) (mod_below part (10 ^ places) (ten_pos places)) in
          let spread = tail_value (part / 10 ^ places) (digits_value_after 10 0 (decimals places (part % 10 ^ places))) (length (decimals places (part % 10 ^ places))) places least in
          rw (decimals-some places part some, first, value, places_left) (spread ∙ ap (λ n. part / 10 ^ places * 10 ^ places + n) ih ∙ div-add-mod' part (10 ^ places))
      | inr none ↦ let e : part ≡ 0 = omega arith in rw e (omega arith)
    ]

decimals-nonempty : (places part : ℕ) → 0 < part → part < 10 ^ places → 0 < length (decimals places part)
decimals-nonempty zero part some lt = absurd (omega (arith, some, lt))
decimals-nonempty (suc places) part some lt = rw (decimals-some places part some) (omega arith)

get_or-last : (c : ℕ) (ds : List ℕ) → 0 < length ds → get_or (c ∷ ds) (length (c ∷ ds) - 1) 0 ≡ get_or ds (length ds - 1) 0
get_or-last c [] some = absurd (omega (arith, some))
get_or-last c (d ∷ ds) some =
    let e : length (c ∷ d ∷ ds) - 1 ≡ suc (length (d ∷ ds) - 1) = omega arith in
    ap (λ k. get_or (c ∷ d ∷ ds) k 0) e

last_of_more : (c : ℕ) (ds : List ℕ) → 0 < length ds → (get_or ds (length ds - 1) 0 ≡ 48 → ⊥)
    → get_or (c ∷ ds) (length (c ∷ ds) - 1) 0 ≡ 48 → ⊥
last_of_more c ds some other e = other (sym (get_or-last c ds some) ∙ e)

last_alone : (places part : ℕ) → 0 < part → part % 10 ^ places ≡ 0
    → get_or ((48 + part / 10 ^ places) ∷ decimals places (part % 10 ^ places)) (length ((48 + part / 10 ^ places) ∷ decimals places (part % 10 ^ places)) - 1) 0 ≡ 48 → ⊥
last_alone places part some none e =
    let no : decimals places (part % 10 ^ places) ≡ [] = ap (decimals places) none ∙ decimals-none places in
    let f : 48 + part / 10 ^ places ≡ 48 = rw no at e in
    let q : part / 10 ^ places ≡ 0 = omega (arith, f) in
    let z : part / 10 ^ places * 10 ^ places ≡ 0 * 10 ^ places = ap (λ n. n * 10 ^ places) q in
    let n : 0 * 10 ^ places ≡ 0 = omega arith in
    absurd (omega (arith, some, none, z, n, div-add-mod' part (10 ^ places)))

-- the last of the decimals isn't 0
pub decimals-last : (places part : ℕ) → part < 10 ^ places
    → get_or (decimals places part) (length (decimals places part) - 1) 0 ≡ 48 → ⊥
decimals-last zero part lt e = absurd (omega (arith, e))
decimals-last (suc places) part lt e =
    elim (cases_lt 0 part) [
      | inl some ↦
          let e' = rw (decimals-some places part some) at e in
          elim (cases_lt 0 (part % 10 ^ places)) [
            | inl more ↦ last_of_more (48 + part / 10 ^ places) (decimals places (part % 10 ^ places)) (decimals-nonempty places (part % 10 ^ places) more (mod_below part (10 ^ places) (ten_pos places))) (decimals-last places (part % 10 ^ places) (mod_below part (10 ^ places) (ten_pos places))) e'
            | inr none ↦ last_alone places part some (omega arith) e'
          ]
      | inr none ↦ let z : part ≡ 0 = omega arith in let e' : 0 ≡ 48 = rw z at e in absurd (omega (arith, e'))
    ]

-- the point of a text is its first
point_at : (n : ℕ) (rest : List ℕ) → n < 10 ^ 64 → position_or_len (λ c. c == 46) (decimal n ++ 46 ∷ rest) ≡ length (decimal n)
point_at n rest small = position_or_len_is (λ c. c == 46) (decimal n ++ 46 ∷ rest) (length (decimal n)) 0 (rw length-append (omega arith))
    (λ k within. let digit = digit_at (decimal n) k (decimal_is_IsNumeral_wide n small).0.1 within in ne_eqb _ 46 (rw (get_or_append_left (decimal n) (46 ∷ rest) 0 k within) (λ e. absurd (omega (arith, digit, e)))))
    (λ _. eq-eqb _ 46 (get_or_at (decimal n) 46 rest 0 (length (decimal n)) refl))

point_none : (n : ℕ) → n < 10 ^ 64 → position_or_len (λ c. c == 46) (decimal n) ≡ length (decimal n)
point_none n small = position_or_len_is (λ c. c == 46) (decimal n) (length (decimal n)) 0 (omega arith)
    (λ k within. let digit = digit_at (decimal n) k (decimal_is_IsNumeral_wide n small).0.1 within in ne_eqb _ 46 (λ e. absurd (omega (arith, digit, e))))
    (λ past. absurd (omega (arith, past)))

whole_in-point : (n : ℕ) (rest : List ℕ) → n < 10 ^ 64 → whole_in (decimal n ++ 46 ∷ rest) ≡ decimal n
whole_in-point n rest small = ap (λ k. take k (decimal n ++ 46 ∷ rest)) (point_at n rest small) ∙ take_at (decimal n) (46 ∷ rest) (length (decimal n)) refl

decimals_in-point : (n : ℕ) (rest : List ℕ) → n < 10 ^ 64 → decimals_in (decimal n ++ 46 ∷ rest) ≡ rest
decimals_in-point n rest small =
    ap (λ k. drop (k + 1) (decimal n ++ 46 ∷ rest)) (point_at n rest small)
    ∙ sym (drop-drop 1 (length (decimal n)) (decimal n ++ 46 ∷ rest)) ∙ ap (drop 1) (drop_at (decimal n) (46 ∷ rest) (length (decimal n)) refl)

whole_in-none : (n : ℕ) → n < 10 ^ 64 → whole_in (decimal n) ≡ decimal n
whole_in-none n small = ap (λ k. take k (decimal n)) (point_none n small) ∙ take_all (length (decimal n)) (decimal n) (omega arith)

decimals_in-none : (n : ℕ) → n < 10 ^ 64 → decimals_in (decimal n) ≡ []
decimals_in-none n small = ap (λ k. drop (k + 1) (decimal n)) (point_none n small) ∙ drop_all (length (decimal n) + 1) (decimal n) (omega arith)

says-parts : (amount k : ℕ) (text : List ℕ) → amount / 10 ^ k < 10 ^ 64 → whole_in text ≡ decimal (amount / 10 ^ k)
    → decimals_in text ≡ decimals k (amount % 10 ^ k) → SaysAmount amount k text
says-parts amount k text small whole parts =
    let lt : amount % 10 ^ k < 10 ^ k = mod_below amount (10 ^ k) (ten_pos k) in
    let n : digits_value 10 (whole_in text) ≡ amount / 10 ^ k = ap (digits_value 10) whole ∙ (decimal_is_IsNumeral_wide (amount / 10 ^ k) small).1 in
    let part : digits_value 10 (decimals_in text) * 10 ^ (k - length (decimals_in text)) ≡ amount % 10 ^ k = ap (λ ds. digits_value 10 ds * 10 ^ (k - length ds)) parts ∙ decimals-value k (amount % 10 ^ k) lt in
    record {
      value = ap (λ x. x * 10 ^ k + digits_value 10 (decimals_in text) * 10 ^ (k - length (decimals_in text))) n ∙ ap (λ x. amount / 10 ^ k * 10 ^ k + x) part ∙ div-add-mod' amount (10 ^ k);
      few = let short = decimals-short k (amount % 10 ^ k) in omega (arith, short, ap length parts);
      no_zero_at_end = λ e. decimals-last k (amount % 10 ^ k) lt (sym (ap (λ ds. get_or ds (length ds - 1) 0) parts) ∙ e);
    }

says-amount : (amount k : ℕ) → amount < 2 ^ 128 → SaysAmount amount k (amount_text amount k)
unfolding amount_text
says-amount amount k lt =
    let n : ℕ = amount / 10 ^ k in
    let few : amount / 10 ^ k ≤ amount = div-le_self amount (10 ^ k) in
    let big : 2 ^ 128 < 10 ^ 64 = lit< tt in
    let small : amount / 10 ^ k < 10 ^ 64 = omega (arith, few, big, lt) in
    elim (cases_lt 0 (amount % 10 ^ k)) [
      | inl some ↦
          let text : amount_text amount k ≡ decimal (amount / 10 ^ k) ++ 46 ∷ decimals k (amount % 10 ^ k) =
          ap (λ t. decimal (amount / 10 ^ k) ++ t) (pointed-decimals k (amount % 10 ^ k) some (mod_below amount (10 ^ k) (ten_pos k))) in
          says-parts amount k (amount_text amount k) small
          (ap whole_in text ∙ whole_in-point (amount / 10 ^ k) (decimals k (amount % 10 ^ k)) small)
          (ap decimals_in text ∙ decimals_in-point (amount / 10 ^ k) (decimals k (amount % 10 ^ k)) small)
      | inr none ↦
          let e : amount % 10 ^ k ≡ 0 = omega arith in
          let text : amount_text amount k ≡ decimal (amount / 10 ^ k) = text_whole amount k (10 ^ k) refl e in
          says-parts amount k (amount_text amount k) small
          (ap whole_in text ∙ whole_in-none (amount / 10 ^ k) small)
          (ap decimals_in text ∙ decimals_in-none (amount / 10 ^ k) small ∙ sym (ap (decimals k) e ∙ decimals-none k))
    ]

-- the text in front of what stood there before
pub says-front : (amount k len : ℕ) (into old text : List ℕ) → amount < 2 ^ 128 → text ≡ amount_text amount k → len ≡ length text
    → into ≡ text ++ drop len old → SaysAmount amount k (take len into)
says-front amount k len into old text lt is long written =
    let front : take len into ≡ amount_text amount k = ap (take len) written ∙ take_at text (drop len old) len (sym long) ∙ is in
    let P : List ℕ → Type 0 = λ t. SaysAmount amount k t in
    subst P (sym front) (says-amount amount k lt)
