-- Lists of runes of which no two have one id, or one name.
use Rattle.std.proofs.Common.{◌≡◌, ◌∙◌, ℕ, zero, suc, ◌+◌, ◌<◌, ◌≤◌, Bool, true, false, not, cond, List, [], ◌∷◌, ◌++◌, length, get_or, take, refl, sym, ap, arith, inl, inr, ◌⊎◌}
use Rattle.std.specs.Prelude.{◌&&◌, ◌||◌, ◌==◌, count_by, Decides}
use Rattle.std.specs.List.{list_all, list_any}
use Rattle.std.specs.Ordering.{is_eq, nat_cmp}
use Rattle.std.proofs.lemmas.Bool.Decides.{nat_tests}
use Rattle.std.proofs.lemmas.Bool.{and_from, cases_Bool, cases_order, cond-false, cond-true, eq-eqb, eqb-true, false≢true, ne_eqb, not-false, not-true, or_cases, or_parts}
use Rattle.std.proofs.lemmas.List.{get_or-take, length-take-le, take_all, take_more}
use Rattle.std.proofs.lemmas.List.Folds.{list_all-append, list_all_at, list_any_at, list_any_more}
use Rattle.std.proofs.lemmas.List.Sums.{count_by_more_yes, sum_by-append, sum_by-cons, sum_by-take-le}
use Rattle.std.proofs.lemmas.Option.{get_or_from_slice_get, slice_get-get_or, slice_get_within}
use Rattle.ox_allocation.specs.Balances.{is_same}
use Rattle.ox_allocation.proofs.Ids.{same_id, same_itself}
use Rattle.ox_etching.specs.declared.row.RuneRow.{RuneRow}
use Rattle.ox_ledger.specs.Balanced.{AreDistinct}
use Rattle.ox_sound.specs.Rows.{ids_differ, names_differ}

-- ---- how many pass a test

none_counted : {X : Type 0} (p : X → Bool) (xs : List X) → list_any p xs ≡ false → count_by p xs ≡ 0
none_counted p [] none = refl
none_counted p (x ∷ xs) none =
    let parts = or_parts (p x) (list_any p xs) none in
    let here : ◌≡◌ {A = ℕ} (cond (p x) 1 0) 0 = cond-false (p x) 1 0 parts.0 in
    let rest : count_by p xs ≡ 0 = none_counted p xs parts.1 in
    sum_by-cons (λ y. cond (p y) 1 0) x xs ∙ omega (arith, here, rest)

one_counted : {X : Type 0} (p : X → Bool) (xs : List X) → list_any p xs ≡ true → 0 < count_by p xs
one_counted p [] some = absurd (false≢true some)
one_counted p (x ∷ xs) some = by_place (λ there. one_counted p xs there) (or_cases (p x) (list_any p xs) some) where
  split : count_by p (x ∷ xs) ≡ cond (p x) 1 0 + count_by p xs
  split = sum_by-cons (λ y. cond (p y) 1 0) x xs

  by_place : (list_any p xs ≡ true → 0 < count_by p xs) → (p x ≡ true) ⊎ (list_any p xs ≡ true) → 0 < count_by p (x ∷ xs)
  by_place later (inl here) = let one : ◌≡◌ {A = ℕ} (cond (p x) 1 0) 1 = cond-true (p x) 1 0 here in omega (arith, split, one)
  by_place later (inr there) = let rest : 0 < count_by p xs = later there in omega (arith, split, rest)

-- one that passes stands at a place
place_of : {X : Type 0} (p : X → Bool) (xs : List X) (d : X) → list_any p xs ≡ true → (i : ℕ) × (i < length xs) × (p (get_or xs i d) ≡ true)
place_of p [] d some = absurd (false≢true some)
place_of p (x ∷ xs) d some = by_place (λ there. place_of p xs d there) (or_cases (p x) (list_any p xs) some) where
  by_place : (list_any p xs ≡ true → (i : ℕ) × (i < length xs) × (p (get_or xs i d) ≡ true)) → (p x ≡ true) ⊎ (list_any p xs ≡ true) → (i : ℕ) × (i < length (x ∷ xs)) × (p (get_or (x ∷ xs) i d) ≡ true)
  by_place later (inl here) = (0, omega arith, here)
  by_place later (inr there) = let rest = later there in (suc rest.0, omega (arith, rest.1), rest.2)

-- a test that none passes, and others in their places
none_pass : {X : Type 0} (p : X → Bool) (xs : List X) → list_any p xs ≡ false → (k : ℕ) (d : X) → k < length xs → p (get_or xs k d) ≡ false
none_pass p [] none k d h = absurd (omega (arith, h))
none_pass p (x ∷ xs) none zero d h = (or_parts (p x) (list_any p xs) none).0
none_pass p (x ∷ xs) none (suc k) d h = none_pass p xs (or_parts (p x) (list_any p xs) none).1 k d (omega (arith, h))

-- a test of each by its place
pub all_by_place : {X : Type 0} (q : X → Bool) (xs : List X) (d : X) → ((k : ℕ) → k < length xs → q (get_or xs k d) ≡ true) → list_all q xs ≡ true
all_by_place q [] d each = refl
all_by_place q (x ∷ xs) d each = and_from (q x) (list_all q xs) (each 0 (omega arith)) (all_by_place q xs d (λ k h. each (suc k) (omega (arith, h))))

pub each_passes : {X : Type 0} (q : X → Bool) (xs : List X) (d : X) → list_all q xs ≡ true → (k : ℕ) → k < length xs → q (get_or xs k d) ≡ true
each_passes q xs d all k h =
    elim (cases_Bool (q (get_or xs k d))) [
      | inl pass ↦ pass
      | inr fails ↦ absurd (false≢true (sym (list_all_at q xs k d h fails) ∙ all))
    ]

module _ {A : Type 0} (key : RuneRow → A) (same : A → A → Bool) (exact : (a b : A) → same a b ≡ true → a ≡ b) (itself : (a : A) → same a a ≡ true) where
  -- a rune has the key of another
  abbrev pub is_like : RuneRow → RuneRow → Bool
  is_like row other = same (key other) (key row)

  abbrev pub alone : List RuneRow → RuneRow → Bool
  alone runes row = count_by (is_like row) runes == 1

  abbrev pub differ : List RuneRow → Bool
  differ runes = list_all (alone runes) runes

  turned : (row other : RuneRow) → is_like row other ≡ false → is_like other row ≡ false
  turned row other not_like =
      elim (cases_Bool (is_like other row)) [
        | inl like ↦ absurd (false≢true (sym not_like ∙ ap (λ (a : A). same a (key row)) (sym (exact (key row) (key other) like)) ∙ itself (key row)))
        | inr other_way ↦ other_way
      ]

  -- where one before it has its key
  pub not_alone : (runes : List RuneRow) (i : ℕ) (d : RuneRow) → i < length runes → list_any (is_like (get_or runes i d)) (take i runes) ≡ true → differ runes ≡ false
  not_alone runes i d h met =
      let row = get_or runes i d in
      let p = is_like row in
      let some : 0 < count_by p (take i runes) = one_counted p (take i runes) met in
      let more : count_by p (take (i + 1) runes) ≡ count_by p (take i runes) + 1 = count_by_more_yes p runes i d h (itself (key row)) in
      let most : count_by p (take (i + 1) runes) ≤ count_by p runes = sum_by-take-le (λ (x : RuneRow). cond (p x) 1 0) runes (i + 1) in
      list_all_at (alone runes) runes i d h (ne_eqb (count_by p runes) 1 (λ one. absurd (omega (arith, some, more, most, one))))

  -- one more, of a key that none has
  differ_push : (runes : List RuneRow) (row : RuneRow) → differ runes ≡ true → list_any (is_like row) runes ≡ false → differ (runes ++ row ∷ []) ≡ true
  differ_push runes row before none =
      list_all-append (alone (runes ++ row ∷ [])) runes (row ∷ [])
      ∙ and_from (list_all (alone (runes ++ row ∷ [])) runes) (alone (runes ++ row ∷ []) row && true)
      (all_by_place (alone (runes ++ row ∷ [])) runes row (λ k h.
      let other = get_or runes k row in
      let here : ◌≡◌ {A = ℕ} (cond (is_like other row) 1 0) 0 = cond-false (is_like other row) 1 0 (turned row other (none_pass (is_like row) runes none k row h)) in
      let one : count_by (is_like other) runes ≡ 1 = eqb-true (count_by (is_like other) runes) 1 (each_passes (alone runes) runes row before k h) in
      eq-eqb (count_by (is_like other) (runes ++ row ∷ [])) 1 (pushed other ∙ omega (arith, here, one))))
      (and_from (alone (runes ++ row ∷ []) row) true
      (let here : ◌≡◌ {A = ℕ} (cond (is_like row row) 1 0) 1 = cond-true (is_like row row) 1 0 (itself (key row)) in
      let zero_before : count_by (is_like row) runes ≡ 0 = none_counted (is_like row) runes none in
      eq-eqb (count_by (is_like row) (runes ++ row ∷ [])) 1 (pushed row ∙ omega (arith, here, zero_before)))
      refl)
    where
      pushed : (other : RuneRow) → count_by (is_like other) (runes ++ row ∷ []) ≡ count_by (is_like other) runes + cond (is_like other row) 1 0
      pushed other = sum_by-append (λ (x : RuneRow). cond (is_like other x) 1 0) runes (row ∷ []) ∙ ap (λ n. count_by (is_like other) runes + n) (omega arith)

  pub differ_more : (runes : List RuneRow) (i : ℕ) (d : RuneRow) → i < length runes → differ (take i runes) ≡ true → list_any (is_like (get_or runes i d)) (take i runes) ≡ false → differ (take (i + 1) runes) ≡ true
  differ_more runes i d h before none = ap differ (take_more runes i d h) ∙ differ_push (take i runes) (get_or runes i d) before none

  -- ---- the test says that keys are distinct

  apart : (runes : List RuneRow) (d : RuneRow) → differ runes ≡ true → (i j : ℕ) → i < j → j < length runes → key (get_or runes i d) ≡ key (get_or runes j d) → ⊥
  apart runes d before i j below h like =
      let row = get_or runes j d in
      let long : length (take j runes) ≡ j = length-take-le j runes (omega (arith, h)) in
      let at : i < length (take j runes) = omega (arith, long, below) in
      let there : is_like row (get_or (take j runes) i d) ≡ true = ap (λ (x : RuneRow). is_like row x) (get_or-take j runes i d below) ∙ ap (λ (a : A). same a (key row)) like ∙ itself (key row) in
      false≢true (sym (not_alone runes j d h (list_any_at (is_like row) (take j runes) i d at there)) ∙ before)

  distinct_from : (runes : List RuneRow) → differ runes ≡ true → AreDistinct key runes
  distinct_from runes before i j a b here there like =
      elim (cases_order i j) [
        | inl equal ↦ equal
        | inr (inl below) ↦ absurd (apart runes a before i j below (slice_get_within runes j b there) (keys))
        | inr (inr above) ↦ absurd (apart runes a before j i above (slice_get_within runes i a here) (sym keys))
      ]
    where
      keys : key (get_or runes i a) ≡ key (get_or runes j a)
      keys = ap key (get_or_from_slice_get runes i a a here) ∙ like ∙ sym (ap key (get_or_from_slice_get runes j b a there))

  differ_upto : (runes : List RuneRow) (d : RuneRow) → AreDistinct key runes → (i : ℕ) → i ≤ length runes → differ (take i runes) ≡ true
  differ_upto runes d distinct zero h = refl
  differ_upto runes d distinct (suc i) h =
      (let next : suc i ≡ i + 1 = omega arith in ap (λ (n : ℕ). differ (take n runes)) next) ∙ differ_more runes i d (omega (arith, h)) (differ_upto runes d distinct i (omega (arith, h))) none
    where
      row : RuneRow
      row = get_or runes i d

      none : list_any (is_like row) (take i runes) ≡ false
      none =
          elim (cases_Bool (list_any (is_like row) (take i runes))) [
            | inl met ↦
                let at = place_of (is_like row) (take i runes) d met in
                let long : length (take i runes) ≡ i = length-take-le i runes (omega (arith, h)) in
                let below : at.0 < i = omega (arith, long, at.1) in
                let like = exact (key (get_or (take i runes) at.0 d)) (key row) at.2 in
                let keys : key (get_or runes at.0 d) ≡ key row = ap key (sym (get_or-take i runes at.0 d below)) ∙ like in
                let equal : at.0 ≡ i = distinct at.0 i (get_or runes at.0 d) row (slice_get-get_or runes at.0 d (omega (arith, below, h))) (slice_get-get_or runes i d (omega (arith, h))) keys in
                absurd (omega (arith, below, equal))
            | inr other ↦ other
          ]

  pub Decides-differ : (runes : List RuneRow) → Decides (differ runes) (AreDistinct key runes)
  Decides-differ [] = (λ _. distinct_from [] refl, λ _. refl)
  Decides-differ (row ∷ runes) = (
    distinct_from (row ∷ runes),
    λ distinct. ap differ (sym (take_all (length (row ∷ runes)) (row ∷ runes) (omega arith))) ∙ differ_upto (row ∷ runes) row distinct (length (row ∷ runes)) (omega arith),
  )

-- ---- ids and names

pub Decides-ids : (runes : List RuneRow) → Decides (ids_differ runes) (AreDistinct (λ row. row.id) runes)
unfolding ids_differ
Decides-ids runes = Decides-differ (λ (row : RuneRow). row.id) is_same same_id same_itself runes

pub Decides-names : (runes : List RuneRow) → Decides (names_differ runes) (AreDistinct (λ row. row.name) runes)
unfolding names_differ
Decides-names runes = Decides-differ (λ (row : RuneRow). row.name) ◌==◌ eqb-true (λ a. eq-eqb a a refl) runes

-- ---- names one by one

eq_is : (a b : ℕ) → is_eq (nat_cmp a b) ≡ (a == b)
eq_is a b = grind (arith, nat_tests)

or_cond : (b c : Bool) → cond b true c ≡ (c || b)
or_cond true true = refl
or_cond true false = refl
or_cond false true = refl
or_cond false false = refl

-- some rune has the name
abbrev pub has_name : ℕ → List RuneRow → Bool
has_name name runes = list_any (λ (other : RuneRow). other.name == name) runes

pub name_met : (runes : List RuneRow) (i : ℕ) (d : RuneRow) (met : ℕ → Bool) (added : Bool) → i < length runes → ((name : ℕ) → met name ≡ has_name name (take i runes)) → added ≡ not (met (get_or runes i d).name)
    → added ≡ false → names_differ runes ≡ false
unfolding names_differ
name_met runes i d met added h are is none =
    let there : met (get_or runes i d).name ≡ true = not-false (met (get_or runes i d).name) (sym is ∙ none) in
    not_alone (λ (row : RuneRow). row.name) ◌==◌ eqb-true (λ a. eq-eqb a a refl) runes i d h (sym (are (get_or runes i d).name) ∙ there)

pub name_new : (runes : List RuneRow) (i : ℕ) (d : RuneRow) (met : ℕ → Bool) (added : Bool) → i < length runes → ((name : ℕ) → met name ≡ has_name name (take i runes)) → added ≡ not (met (get_or runes i d).name)
    → added ≡ true → names_differ (take i runes) ≡ true → names_differ (take (i + 1) runes) ≡ true
unfolding names_differ
name_new runes i d met added h are is new before =
    let none : met (get_or runes i d).name ≡ false = not-true (met (get_or runes i d).name) (sym is ∙ new) in
    differ_more (λ (row : RuneRow). row.name) ◌==◌ eqb-true (λ a. eq-eqb a a refl) runes i d h before (sym (are (get_or runes i d).name) ∙ none)

pub names_met : (runes : List RuneRow) (i : ℕ) (d : RuneRow) (met new : ℕ → Bool) → i < length runes → ((name : ℕ) → met name ≡ has_name name (take i runes))
    → ((name : ℕ) → new name ≡ cond (is_eq (nat_cmp (get_or runes i d).name name)) true (met name)) → (name : ℕ) → new name ≡ has_name name (take (i + 1) runes)
names_met runes i d met new h are written name =
    written name ∙ ap (λ b. cond b true (met name)) (eq_is (get_or runes i d).name name) ∙ ap (cond ((get_or runes i d).name == name) true) (are name)
    ∙ or_cond ((get_or runes i d).name == name) (has_name name (take i runes)) ∙ sym (list_any_more (λ (other : RuneRow). other.name == name) runes i d h)
