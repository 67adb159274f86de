-- Decimals, digit by digit.
use Rattle.std.proofs.Common.{◌≡◌, ℕ, zero, suc, ◌+◌, ◌-◌, ◌*◌, ◌/◌, ◌%◌, ◌^◌, ◌<◌, ◌≤◌, List, [], ◌∷◌, ◌++◌, length, take, drop, set, refl, sym, ap, ◌∙◌, append_assoc, append-nil, lit<, lit≤, arith, inl, inr}
use Rattle.std.proofs.Math.Nat.{pow-suc, pow-le-pow_right}
use Rattle.std.proofs.lemmas.Bool.{ne_eqb, cases_lt}
use Rattle.std.proofs.lemmas.Fmt.{length-decimal-le_wide}
use Rattle.std.proofs.lemmas.List.{take_more_set, length-set, length-take-le, take-append-drop, take_at, drop_at}
use Rattle.std.proofs.lemmas.Nat.{pow-add, div_below, mod_below}
use Rattle.std.specs.Fmt.{decimal}
use Rattle.ox_name.proofs.ReversedDigits.{stays_behind}
use Rattle.ox_name.specs.Amount.{decimals, with_point, amount_text}

pub decimals-none : (places : ℕ) → decimals places 0 ≡ []
decimals-none zero = refl
decimals-none (suc places) = refl

pub decimals-some : (places part : ℕ) → 0 < part → decimals (suc places) part ≡ (48 + part / 10 ^ places) ∷ decimals places (part % 10 ^ places)
decimals-some places part some = rw (ne_eqb part 0 (omega arith)) refl

pub decimals-short : (places part : ℕ) → length (decimals places part) ≤ places
decimals-short zero part = omega arith
decimals-short (suc places) part =
    elim (cases_lt 0 part) [
      | inl some ↦ let ih = decimals-short places (part % 10 ^ places) in rw (decimals-some places part some) (omega (arith, ih))
      | inr none ↦ let e : part ≡ 0 = omega arith in rw e (omega arith)
    ]

pub ten_pos : (k : ℕ) → 0 < 10 ^ k
ten_pos k = let le : 10 ^ 0 ≤ 10 ^ k = pow-le-pow_right {n = 10} (lit< tt) {i = 0} {j = k} (omega arith) in omega arith

-- the power that divides fits
pub unit_fits : (k : ℕ) → k ≤ 38 → 10 ^ k < 2 ^ 128
unit_fits k le =
    let up : 10 ^ k ≤ 10 ^ 38 = pow-le-pow_right {n = 10} (lit< tt) {i = k} {j = 38} le in
    let big : 10 ^ 38 < 2 ^ 128 = lit< tt in
    omega arith

pub whole_short : (amount k : ℕ) → amount < 2 ^ 128 → k ≤ 38 → length (decimal (amount / 10 ^ k)) + k ≤ 39
whole_short amount k lt le =
    let e : 39 ≡ (39 - k) + k = omega arith in
    let p : 10 ^ 39 ≡ 10 ^ (39 - k) * 10 ^ k = ap (λ n. 10 ^ n) e ∙ pow-add 10 (39 - k) k in
    let big : 2 ^ 128 ≤ 10 ^ 39 = lit≤ tt in
    let lt' : amount < 10 ^ 39 = omega arith in
    let q : amount < 10 ^ (39 - k) * 10 ^ k = rw p at lt' in
    let r : amount / 10 ^ k < 10 ^ (39 - k) = div_below amount (10 ^ k) (10 ^ (39 - k)) (ten_pos k) q in
    let w : 10 ^ (39 - k) ≤ 10 ^ 64 = pow-le-pow_right {n = 10} (lit< tt) {i = 39 - k} {j = 64} (omega arith) in
    omega (arith, length-decimal-le_wide (39 - k) (amount / 10 ^ k) (omega arith) r (omega arith))

-- no decimals
text_whole' : (amount k : ℕ) → amount % 10 ^ k ≡ 0 → amount_text amount k ≡ decimal (amount / 10 ^ k)
unfolding amount_text
text_whole' amount k e =
    ap (λ part. decimal (amount / 10 ^ k) ++ with_point (decimals k part)) e ∙ ap (λ t. decimal (amount / 10 ^ k) ++ with_point t) (decimals-none k) ∙ append-nil (decimal (amount / 10 ^ k))

pub text_whole : (amount k unit : ℕ) → unit ≡ 10 ^ k → amount % unit ≡ 0 → amount_text amount k ≡ decimal (amount / unit)
text_whole amount k unit u e = let f : amount % 10 ^ k ≡ 0 = rw u at e in rw u (text_whole' amount k f)

pub pointed-decimals : (places part : ℕ) → 0 < part → part < 10 ^ places → with_point (decimals places part) ≡ 46 ∷ decimals places part
pointed-decimals zero part some lt = absurd (omega arith)
pointed-decimals (suc places) part some lt = rw (decimals-some places part some) refl

-- the point, and decimals behind it
text_point : (amount k : ℕ) → 0 < amount % 10 ^ k → (decimal (amount / 10 ^ k) ++ 46 ∷ []) ++ decimals k (amount % 10 ^ k) ≡ amount_text amount k
unfolding amount_text
text_point amount k some =
    append_assoc (decimal (amount / 10 ^ k)) (46 ∷ []) (decimals k (amount % 10 ^ k)) ∙ ap (λ t. decimal (amount / 10 ^ k) ++ t) (sym (pointed-decimals k (amount % 10 ^ k) some (mod_below amount (10 ^ k) (ten_pos k))))

-- what the loop has written, and what is left: so many places, of which unit is the power of ten
pub record Written (target into old : List ℕ) (unit part len : ℕ) : Type 0 where
  pub places : ℕ
  pub unit-is : unit ≡ 10 ^ places
  pub room : len + places ≤ 40
  pub below : part < unit
  pub text : take len into ++ decimals places part ≡ target
  pub rest : drop len into ≡ drop len old
  pub long : length into ≡ 41

pub some_left : (target into old : List ℕ) (unit part len : ℕ) → Written target into old unit part len → 0 < part → (places : ℕ) × (unit ≡ 10 ^ suc places) × (unit / 10 ≡ 10 ^ places) × (len + suc places ≤ 40) × (take len into ++ decimals (suc places) part ≡ target)
some_left target into old unit part len w some =
    elim (cases_lt 0 w.places) [
      | inl more ↦
          let k : ℕ = w.places - 1 in
          let e : w.places ≡ suc k = omega arith in
          let u : unit ≡ 10 ^ suc k = w.unit-is ∙ ap (λ n. 10 ^ n) e in
          let p : 10 ^ suc k ≡ 10 ^ k * 10 = pow-suc 10 k in
          let d : unit / 10 ≡ 10 ^ k = let v : unit ≡ 10 ^ k * 10 = u ∙ p in omega arith in
          (k, u, d, omega (arith, w.room), ap (λ n. take len into ++ decimals n part) (sym e) ∙ w.text)
      | inr none ↦
          let e : w.places ≡ 0 = omega arith in
          let u : unit ≡ 1 = w.unit-is ∙ ap (λ n. 10 ^ n) e in
          let b : part < unit = w.below in
          absurd (omega arith)
    ]

pub digit_below : (unit part places : ℕ) → unit ≡ 10 ^ suc places → part < unit → part / 10 ^ places < 10
digit_below unit part places u lt =
    let p : 10 ^ suc places ≡ 10 ^ places * 10 = pow-suc 10 places in
    let q : part < 10 * 10 ^ places = omega arith in
    div_below part (10 ^ places) 10 (ten_pos places) q

-- the point is written
pub begins : (amount k unit len : ℕ) (into old : List ℕ) → amount < 2 ^ 128 → k ≤ 38 → unit ≡ 10 ^ k → 0 < amount % unit → len ≡ length (decimal (amount / unit)) → into ≡ decimal (amount / unit) ++ drop len old → length into ≡ 41 → Written (amount_text amount k) (set into len 46) old unit (amount % unit) (len + 1)
begins amount k unit len into old lt le u some len-is into-is long =
    let whole : len + k ≤ 39 = let f : len ≡ length (decimal (amount / 10 ^ k)) = rw u at len-is in omega (arith, whole_short amount k lt le) in
    let within : len < length into = omega arith in
    let front : take len into ≡ decimal (amount / unit) = ap (take len) into-is ∙ take_at (decimal (amount / unit)) (drop len old) len (sym len-is) in
    let behind : drop len into ≡ drop len old = ap (drop len) into-is ∙ drop_at (decimal (amount / unit)) (drop len old) len (sym len-is) in
    let some' : 0 < amount % 10 ^ k = rw u at some in
    let text : take (len + 1) (set into len 46) ≡ decimal (amount / 10 ^ k) ++ 46 ∷ [] = take_more_set into len 46 within ∙ ap (λ t. t ++ 46 ∷ []) (front ∙ ap (λ d. decimal (amount / d)) u) in
    record {
      places = k;
      unit-is = u;
      room = omega arith;
      below = mod_below amount unit (rw u (ten_pos k));
      text = ap (λ d. take (len + 1) (set into len 46) ++ decimals k (amount % d)) u ∙ ap (λ t. t ++ decimals k (amount % 10 ^ k)) text ∙ text_point amount k some';
      rest = stays_behind into old len 46 behind;
      long = length-set into len 46 ∙ long;
    }

-- one decimal more is written
pub goes_on : (target into old : List ℕ) (unit part len : ℕ) → Written target into old unit part len → 0 < part → Written target (set into len (48 + part / (unit / 10))) old (unit / 10) (part % (unit / 10)) (len + 1)
goes_on target into old unit part len w some =
    let s = some_left target into old unit part len w some in
    let places : ℕ = s.0 in
    let u : unit / 10 ≡ 10 ^ s.0 = s.2 in
    let long : length into ≡ 41 = w.long in
    let fits : len + suc s.0 ≤ 40 = s.3 in
    let within : len < length into = omega arith in
    let digit : ℕ = 48 + part / (unit / 10) in
    let here : decimals (suc s.0) part ≡ (48 + part / (unit / 10)) ∷ decimals s.0 (part % (unit / 10)) = rw u (decimals-some s.0 part some) in
    record {
      places = places;
      unit-is = u;
      room = omega arith;
      below = mod_below part (unit / 10) (rw u (ten_pos s.0));
      text = ap (λ t. t ++ decimals s.0 (part % (unit / 10))) (take_more_set into len digit within) ∙ append_assoc (take len into) ((48 + part / (unit / 10)) ∷ []) (decimals s.0 (part % (unit / 10))) ∙ ap (λ t. take len into ++ t) (sym here) ∙ s.4;
      rest = stays_behind into old len digit w.rest;
      long = length-set into len digit ∙ w.long;
    }

pub ends : (target into old : List ℕ) (unit part len : ℕ) → Written target into old unit part len → part ≤ 0 → (into ≡ target ++ drop len old) × (len ≡ length target)
ends target into old unit part len w none =
    let e : part ≡ 0 = omega arith in
    let no : decimals w.places part ≡ [] = ap (decimals w.places) e ∙ decimals-none w.places in
    let all : take len into ≡ target = sym (append-nil (take len into)) ∙ ap (λ t. take len into ++ t) (sym no) ∙ w.text in
    let room : len + w.places ≤ 40 = w.room in
    let long : length into ≡ 41 = w.long in
    (sym (take-append-drop len into) ∙ ap (λ t. t ++ drop len into) all ∙ ap (λ t. target ++ t) w.rest, sym (length-take-le len into (omega arith)) ∙ ap length all)
