-- Texts of one case of letters.
use Rattle.std.proofs.Common.{◌≡◌, ℕ, ◌+◌, ◌-◌, ◌<◌, ◌≤◌, ◌⊎◌, Bool, true, false, List, [], ◌∷◌, ◌++◌, length, map, get_or, All, refl, sym, ap, subst, ◌∙◌, arith, inl, inr, lit≤}
use Rattle.std.specs.Prelude.{◌&&◌, ◌||◌, nat_le, ◌↔◌, IsTrue}
use Rattle.std.proofs.lemmas.Bool.{cases_lt, cases_Bool, cond-true, cond-false, and_from, and_left, and_right, and_parts, or_cases, le-leb, lt-leb, leb-true, agree_below_at}
use Rattle.std.proofs.lemmas.List.{get_or-map}
use Rattle.std.proofs.lemmas.List.Elements.{All-head, All-tail, All-cons, All-append, All-map, All-weaker}
use Rattle.ox_address.specs.Checksum.{checksum, IsSymbol}
use Rattle.ox_address.specs.Address.{IsHrp, IsLetter, IsCapital, IsSegwit, IsAddress, letter_of, symbols_of, address_of, capital}
use Rattle.ox_address.specs.Passes.{small}
use Rattle.ox_address.proofs.Decide.{symbols_of-symbols, checksum-symbols}

-- a digit or a lower-case letter
abbrev pub IsLower : ℕ → Type 0
IsLower c = ((48 ≤ c) × (c ≤ 57)) ⊎ IsLetter c

capital-letter : (c : ℕ) → IsLetter c → capital c ≡ c - 32
capital-letter c letter = cond-true (nat_le 97 c && nat_le c 122) (c - 32) c (and_from _ _ (le-leb 97 c letter.0) (le-leb c 122 letter.1))

capital-below : (c : ℕ) → c < 97 → capital c ≡ c
capital-below c low = cond-false (nat_le 97 c && nat_le c 122) (c - 32) c (and_left _ (nat_le c 122) (lt-leb 97 c low))

small-below : (c : ℕ) → c < 65 → small true c ≡ c
small-below c low =
    cond-false (nat_le 65 c && nat_le c 90) (c + 32) _ (and_left _ (nat_le c 90) (lt-leb 65 c low))
    ∙ cond-false (nat_le 97 c && nat_le c 122) 0 c (and_left _ (nat_le c 122) (lt-leb 97 c (omega arith)))

small-capital : (c : ℕ) → 65 ≤ c → c ≤ 90 → small true c ≡ c + 32
small-capital c low high = cond-true (nat_le 65 c && nat_le c 90) (c + 32) _ (and_from _ _ (le-leb 65 c low) (le-leb c 90 high))

small-between : (c : ℕ) → 90 < c → c < 97 → small true c ≡ c
small-between c low high =
    cond-false (nat_le 65 c && nat_le c 90) (c + 32) _ (and_right (nat_le 65 c) _ (lt-leb c 90 low))
    ∙ cond-false (nat_le 97 c && nat_le c 122) 0 c (and_left _ (nat_le c 122) (lt-leb 97 c high))

small-small : (c : ℕ) → 97 ≤ c → c ≤ 122 → small true c ≡ 0
small-small c low high =
    cond-false (nat_le 65 c && nat_le c 90) (c + 32) _ (and_right (nat_le 65 c) _ (lt-leb c 90 (omega arith)))
    ∙ cond-true (nat_le 97 c && nat_le c 122) 0 c (and_from _ _ (le-leb 97 c low) (le-leb c 122 high))

small-above : (c : ℕ) → 122 < c → small true c ≡ c
small-above c high =
    cond-false (nat_le 65 c && nat_le c 90) (c + 32) _ (and_right (nat_le 65 c) _ (lt-leb c 90 (omega arith)))
    ∙ cond-false (nat_le 97 c && nat_le c 122) 0 c (and_right (nat_le 97 c) _ (lt-leb c 122 high))

small-of_capital : (c : ℕ) → IsLower c → small true (capital c) ≡ c
small-of_capital c (inl digit) =
    let below : c < 97 = omega (arith, digit.1) in
    ap (small true) (capital-below c below) ∙ small-below c (omega (arith, digit.1))
small-of_capital c (inr letter) =
    ap (small true) (capital-letter c letter)
    ∙ small-capital (c - 32) (omega (arith, letter.0)) (omega (arith, letter.1))
    ∙ omega (arith, letter.0)

-- what stands between and above the digits and letters is neither
outside : (c : ℕ) → IsLower c → ((c < 58) ⊎ ((96 < c) × (c < 123))) × (47 < c)
outside c (inl digit) = (inl (omega (arith, digit.1)), omega (arith, digit.0))
outside c (inr letter) = (inr (omega (arith, letter.0), omega (arith, letter.1)), omega (arith, letter.0))

no_other : (a : ℕ) → IsLower a → 57 < a → (a < 97) ⊎ (122 < a) → ⊥
no_other a (inl digit) high apart = omega (arith, digit.1)
no_other a (inr letter) high (inl low) = omega (arith, letter.0)
no_other a (inr letter) high (inr past) = omega (arith, letter.1)

capital-of_small : (t a : ℕ) → IsLower a → small true t ≡ a → t ≡ capital a
capital-of_small t a lower e =
    elim (cases_lt t 65) [
      | inl low ↦
          let same : t ≡ a = sym (small-below t low) ∙ e in
          same ∙ sym (capital-below a (omega arith))
      | inr up ↦ elim (cases_lt t 91) [
        | inl low ↦
            let same : t + 32 ≡ a = sym (small-capital t up (omega arith)) ∙ e in
            let letter : IsLetter a = (omega arith, omega arith) in
            let back : t ≡ a - 32 = omega arith in
            back ∙ sym (capital-letter a letter)
        | inr more ↦ elim (cases_lt t 97) [
          | inl low ↦
              let same : t ≡ a = sym (small-between t more low) ∙ e in
              absurd (no_other a lower (omega arith) (inl (omega arith)))
          | inr most ↦ elim (cases_lt t 123) [
            | inl low ↦
                let same : 0 ≡ a = sym (small-small t most (omega arith)) ∙ e in
                absurd (omega (arith, (outside a lower).1))
            | inr past ↦
                let same : t ≡ a = sym (small-above t past) ∙ e in
                absurd (no_other a lower (omega arith) (inr (omega arith)))
          ]
        ]
      ]
    ]

pub small-capitals : (cs : List ℕ) → All IsLower cs → map (small true) (map capital cs) ≡ cs
small-capitals [] lower = refl
small-capitals (a ∷ cs) lower =
    ap (λ x. x ∷ map (small true) (map capital cs)) (small-of_capital a (All-head IsLower a cs lower))
    ∙ ap (λ xs. a ∷ xs) (small-capitals cs (All-tail IsLower a cs lower))

pub capitals-small : (ts cs : List ℕ) → All IsLower cs → map (small true) ts ≡ cs → ts ≡ map capital cs
capitals-small [] [] lower e = refl
capitals-small [] (a ∷ cs) lower e = absurd (let no : ⊥ = cc in no)
capitals-small (t ∷ ts) [] lower e = absurd (let no : ⊥ = cc in no)
capitals-small (t ∷ ts) (a ∷ cs) lower e =
    let h : small true t ≡ a = cc in
    let r : map (small true) ts ≡ cs = cc in
    ap (λ x. x ∷ ts) (capital-of_small t a (All-head IsLower a cs lower) h)
    ∙ ap (λ xs. capital a ∷ xs) (capitals-small ts cs (All-tail IsLower a cs lower) r)

pub small-same : (ts : List ℕ) → map (small false) ts ≡ ts
small-same [] = refl
small-same (t ∷ ts) = ap (λ xs. t ∷ xs) (small-same ts)

-- the letter of a symbol is a digit or a lower-case letter
lower_at : ℕ → Bool
lower_at n = (nat_le 48 (letter_of n) && nat_le (letter_of n) 57) || (nat_le 97 (letter_of n) && nat_le (letter_of n) 122)

letter_of-lower : (s : ℕ) → s < 32 → IsLower (letter_of s)
unfolding letter_of lower_at
letter_of-lower s low =
    let c : ℕ = letter_of s in
    elim (or_cases (nat_le 48 c && nat_le c 57) (nat_le 97 c && nat_le c 122) (agree_below_at lower_at (λ n. true) 32 s refl low)) [
      | inl digit ↦
          let both = and_parts (nat_le 48 c) (nat_le c 57) digit in
          inl (leb-true 48 c both.0, leb-true c 57 both.1)
      | inr letter ↦
          let both = and_parts (nat_le 97 c) (nat_le c 122) letter in
          inr (leb-true 97 c both.0, leb-true c 122 both.1)
    ]

pub address_of-lower : (hrp script : List ℕ) → IsHrp hrp → IsSegwit script → All IsLower (address_of hrp script)
unfolding address_of
address_of-lower hrp script is_hrp segwit =
    let symbols : List ℕ = symbols_of script ++ checksum hrp (symbols_of script) in
    All-append IsLower hrp (49 ∷ map letter_of symbols)
    (All-weaker IsLetter IsLower (λ c letter. inr letter) hrp is_hrp.letters)
    (All-cons IsLower 49 (map letter_of symbols) (inl (lit≤ tt, lit≤ tt))
    (All-map IsLower letter_of symbols (All-weaker IsSymbol (λ s. IsLower (letter_of s)) letter_of-lower symbols
    (All-append IsSymbol (symbols_of script) (checksum hrp (symbols_of script)) (symbols_of-symbols script segwit) (checksum-symbols hrp (symbols_of script))))))

pub address_of-first : (hrp script : List ℕ) → IsHrp hrp → IsLetter (get_or (address_of hrp script) 0 0) × (0 < length (address_of hrp script))
unfolding address_of
address_of-first [] script is_hrp = absurd (omega (arith, is_hrp.some))
address_of-first (h ∷ hrp) script is_hrp = (is_hrp.letters 0 0 (omega arith), omega arith)

-- A text is read in the case of its first letter.
pub case-forth :
    (hrp script text : List ℕ) (begins : Bool) → IsHrp hrp → IsTrue begins ↔ IsCapital (get_or text 0 0) →
    IsAddress hrp script text → map (small begins) text ≡ address_of hrp script
case-forth hrp script text begins is_hrp says is =
    let a : List ℕ = address_of hrp script in
    let first = address_of-first hrp script is_hrp in
    let P : Bool → Type 0 = λ b. map (small b) text ≡ a in
    elim is.spelled [
      | inl same ↦
          let c : get_or text 0 0 ≡ get_or a 0 0 = ap (λ xs. get_or xs 0 0) same in
          elim (cases_Bool begins) [
            | inl is_up ↦ absurd (let up = says.0 is_up in omega (arith, up.1, c, first.0.0))
            | inr is_down ↦ subst P (sym is_down) (small-same text ∙ same)
          ]
      | inr large ↦
          let c : get_or text 0 0 ≡ get_or a 0 0 - 32 =
          ap (λ xs. get_or xs 0 0) large ∙ get_or-map capital a 0 0 0 first.1 ∙ capital-letter (get_or a 0 0) first.0 in
          let up : IsCapital (get_or text 0 0) = (omega (arith, c, first.0.0), omega (arith, c, first.0.1)) in
          subst P (sym (says.1 up)) (ap (map (small true)) large ∙ small-capitals a (address_of-lower hrp script is_hrp is.segwit))
    ]

pub case-back :
    (hrp script text : List ℕ) (begins : Bool) → IsHrp hrp → IsSegwit script →
    map (small begins) text ≡ address_of hrp script → IsAddress hrp script text
case-back hrp script text begins is_hrp segwit e =
    let a : List ℕ = address_of hrp script in
    elim (cases_Bool begins) [
      | inl is_up ↦
          let f : map (small true) text ≡ a = ap (λ b. map (small b) text) (sym is_up) ∙ e in
          record { segwit = segwit; spelled = inr (capitals-small text a (address_of-lower hrp script is_hrp segwit) f) }
      | inr is_down ↦
          let f : map (small false) text ≡ a = ap (λ b. map (small b) text) (sym is_down) ∙ e in
          record { segwit = segwit; spelled = inl (sym (small-same text) ∙ f) }
    ]

capital-lower_below : (a : ℕ) → IsLower a → capital a < 97
capital-lower_below a (inl digit) = let low : a < 97 = omega (arith, digit.1) in omega (arith, capital-below a low)
capital-lower_below a (inr letter) = omega (arith, capital-letter a letter, letter.0, letter.1)

-- in capitals nothing is a lower-case letter
pub capitals-below : (cs : List ℕ) → All IsLower cs → All (λ c. c < 97) (map capital cs)
capitals-below cs lower = All-map (λ c. c < 97) capital cs (All-weaker IsLower (λ a. capital a < 97) capital-lower_below cs lower)
