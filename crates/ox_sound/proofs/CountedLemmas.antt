-- Runes after a change: which they are, and what its counts and its new runes come to for one of them.
use Rattle.std.proofs.Common.{◌≡◌, ◌≢◌, ◌∙◌, ℕ, zero, suc, ◌+◌, ◌<◌, ◌≤◌, Bool, true, false, cond, List, [], ◌∷◌, ◌++◌, length, get_or, map, refl, sym, ap, subst, arith, inl, inr, ◌⊎◌, Option, Some, None}
use Rattle.std.specs.Prelude.{◌==◌, All, if◌then◌else◌, nat_le, slice_get}
use Rattle.std.specs.List.{AllByRecursion, list_all}
use Rattle.std.specs.Option.{option_map, option_map_or}
use Rattle.std.proofs.lemmas.Bool.{and_parts, cond-false, cond-true, eq-eqb, eqb-true, false≢true, leb-true}
use Rattle.std.proofs.lemmas.List.Sums.{sum_by-cons}
use Rattle.std.proofs.lemmas.Option.{get_or_from_slice_get, slice_get-get_or, slice_get_within}
use Rattle.ox_runestone.specs.declared.stone.RuneId.{RuneId}
use Rattle.ox_allocation.specs.Balances.{is_same}
use Rattle.ox_allocation.proofs.Ids.{same_itself}
use Rattle.ox_etching.specs.declared.row.RuneRow.{RuneRow}
use Rattle.ox_ledger.specs.Balanced.{AreDistinct}
use Rattle.ox_ledger.specs.Part.{change_at, row_at_end, rows_at_end}
use Rattle.ox_ledger.specs.declared.part.CountChange.{CountChange}
use Rattle.ox_ledger.specs.declared.part.Counts.{Counts}
use Rattle.ox_ledger.proofs.Distinct.{IsFixed}
use Rattle.ox_ledger.proofs.Fresh.{differ}
use Rattle.ox_plain.specs.Ends.{places_rise}
use Rattle.ox_sound.specs.Keeps.{sum_counted, sum_new}

-- ---- places of lists

at_append : {A : Type 0} (xs ys : List A) (i : ℕ) (a : A) → slice_get (xs ++ ys) i ≡ Some a → (slice_get xs i ≡ Some a) ⊎ ((j : ℕ) × (i ≡ length xs + j) × (slice_get ys j ≡ Some a))
at_append [] ys i a is = let e : i ≡ 0 + i = omega arith in inr (i, e, is)
at_append (x ∷ xs) ys zero a is = inl is
at_append (x ∷ xs) ys (suc i) a is = elim (at_append xs ys i a is) [ inl here ↦ inl here | inr further ↦ inr (further.0, (let at : i ≡ length xs + further.0 = further.1 in let e : suc i ≡ suc (length xs) + further.0 = omega (arith, at) in e), further.2) ]

pub all_from : {X : Type 0} (P : X → Type 0) (xs : List X) → ((k : ℕ) (x : X) → slice_get xs k ≡ Some x → P x) → All P xs
all_from P xs each = λ k d h. each k (get_or xs k d) (slice_get-get_or xs k d h)

pub each_of : {X : Type 0} (P : X → Type 0) (xs : List X) → All P xs → (k : ℕ) (x : X) → slice_get xs k ≡ Some x → P x
each_of P xs all k x there = subst P (get_or_from_slice_get xs k x x there) (all k x (slice_get_within xs k x there))

pub test_of : {X : Type 0} (p : X → Bool) (xs : List X) → list_all p xs ≡ true → (k : ℕ) (x : X) → slice_get xs k ≡ Some x → p x ≡ true
test_of p [] all k x there = let none : None ≡ Some x = there in absurd (cc none)
test_of p (y ∷ xs) all zero x there = let same : y ≡ x = cc there in ap p (sym same) ∙ (and_parts (p y) (list_all p xs) all).0
test_of p (y ∷ xs) all (suc k) x there = test_of p xs (and_parts (p y) (list_all p xs) all).1 k x there

recursive_from : {X : Type 0} (P : X → Type 0) (xs : List X) → ((k : ℕ) (x : X) → slice_get xs k ≡ Some x → P x) → AllByRecursion P xs
recursive_from P [] each = tt
recursive_from P (x ∷ xs) each = (each 0 x refl, recursive_from P xs (λ k y there. each (suc k) y there))

pub distinct_append : {A : Type 0} (of : RuneRow → A) (xs ys : List RuneRow) → AreDistinct of xs → AreDistinct of ys
    → ((i j : ℕ) (a b : RuneRow) → slice_get xs i ≡ Some a → slice_get ys j ≡ Some b → of a ≡ of b → ⊥) → AreDistinct of (xs ++ ys)
distinct_append of xs ys first last apart i j a b here there like = by_places (at_append xs ys i a here) (at_append xs ys j b there) where
  by_places : (slice_get xs i ≡ Some a) ⊎ ((k : ℕ) × (i ≡ length xs + k) × (slice_get ys k ≡ Some a)) → (slice_get xs j ≡ Some b) ⊎ ((k : ℕ) × (j ≡ length xs + k) × (slice_get ys k ≡ Some b)) → i ≡ j
  by_places (inl p) (inl q) = first i j a b p q like
  by_places (inl p) (inr q) = absurd (apart i q.0 a b p q.2 like)
  by_places (inr p) (inl q) = absurd (apart j p.0 b a q p.2 (sym like))
  by_places (inr p) (inr q) = p.1 ∙ ap (λ n. length xs + n) (last p.0 q.0 a b p.2 q.2 like) ∙ sym q.1

-- ---- earlier runes

abbrev pub later : CountChange → Counts
later change = change.after

-- what never changes of a rune
pub stays_fixed : {A : Type 0} (of : RuneRow → A) → IsFixed of → (o : Option CountChange) (row : RuneRow) → of (row_at_end later o row) ≡ of row
stays_fixed of still None row = refl
stays_fixed of still (Some change) row = still row change.after.mints change.after.burned

get_end : (changes : List CountChange) (p k : ℕ) (rows : List RuneRow) → slice_get (rows_at_end later changes p rows) k ≡ option_map (row_at_end later (change_at changes (p + k))) (slice_get rows k)
unfolding rows_at_end
get_end changes p k [] = refl
get_end changes p zero (row ∷ rows) = let same : p ≡ p + zero = omega arith in ap (λ (n : ℕ). Some (row_at_end later (change_at changes n) row)) same
get_end changes p (suc k) (row ∷ rows) =
    let same : p + 1 + k ≡ p + suc k = omega arith in
    get_end changes (p + 1) k rows ∙ ap (λ (n : ℕ). option_map (row_at_end later (change_at changes n)) (slice_get rows k)) same

-- a rune after changed counts is one from before, with its counts
pub record Counted (runes : List RuneRow) (counts : List CountChange) (k : ℕ) (now : RuneRow) : Type 0 where
  pub row : RuneRow
  pub there : slice_get runes k ≡ Some row
  pub is : now ≡ row_at_end later (change_at counts k) row

pub counted : (runes : List RuneRow) (counts : List CountChange) (k : ℕ) (now : RuneRow) → slice_get (rows_at_end later counts 0 runes) k ≡ Some now → Counted runes counts k now
counted runes counts k now is = by_row (slice_get runes k) refl (sym at_k ∙ is) where
  at_k : slice_get (rows_at_end later counts 0 runes) k ≡ option_map (row_at_end later (change_at counts k)) (slice_get runes k)
  at_k =
      let same : 0 + k ≡ k = omega arith in
      get_end counts 0 k runes ∙ ap (λ (n : ℕ). option_map (row_at_end later (change_at counts n)) (slice_get runes k)) same

  by_row : (found : Option RuneRow) → slice_get runes k ≡ found → option_map (row_at_end later (change_at counts k)) found ≡ Some now → Counted runes counts k now
  by_row None none some = let no_row : None ≡ Some now = some in absurd (cc no_row)
  by_row (Some row) there some = record { row = row; there = there; is = (let one : Some (row_at_end later (change_at counts k) row) ≡ Some now = some in let same : row_at_end later (change_at counts k) row ≡ now = cc one in sym same) }

pub map_end : {A : Type 0} (of : RuneRow → A) → IsFixed of → (changes : List CountChange) (p : ℕ) (rows : List RuneRow) → map of (rows_at_end later changes p rows) ≡ map of rows
unfolding rows_at_end
map_end of still changes p [] = refl
map_end of still changes p (row ∷ rows) =
    let first = stays_fixed of still (change_at changes p) row in
    let rest = map_end of still changes (p + 1) rows in
    λ i. first i ∷ rest i

pub still_distinct : {A : Type 0} (of : RuneRow → A) → IsFixed of → (counts : List CountChange) (runes : List RuneRow) → AreDistinct of runes → AreDistinct of (rows_at_end later counts 0 runes)
still_distinct of still counts runes distinct i j a b here there like =
    let x = counted runes counts i a here in
    let y = counted runes counts j b there in
    let first = ap of x.is ∙ stays_fixed of still (change_at counts i) x.row in
    let second = ap of y.is ∙ stays_fixed of still (change_at counts j) y.row in
    distinct i j x.row y.row x.there y.there (sym first ∙ like ∙ second)

-- the change at a place is one of the changes
pub found_change : (q : CountChange → Bool) (counts : List CountChange) (k : ℕ) (change : CountChange) → list_all q counts ≡ true → change_at counts k ≡ Some change → (change.place ≡ k) × (q change ≡ true)
found_change q [] k change all is = let none : None ≡ Some change = is in absurd (cc none)
found_change q (x ∷ counts) k change all is = by_test (λ some. found_change q counts k change parts.1 some) (x.place == k) refl is where
  parts : (q x ≡ true) × (list_all q counts ≡ true)
  parts = and_parts (q x) (list_all q counts) all

  by_test : (change_at counts k ≡ Some change → (change.place ≡ k) × (q change ≡ true)) → (b : Bool) → (x.place == k) ≡ b → cond b (Some x) (change_at counts k) ≡ Some change → (change.place ≡ k) × (q change ≡ true)
  by_test rest true here some =
      let same : x ≡ change = cc some in
      subst (λ (c : CountChange). (c.place ≡ k) × (q c ≡ true)) same (eqb-true x.place k here, parts.0)
  by_test rest false here some = rest some

-- ---- what new runes come to

pub none_new : (of : RuneRow → ℕ) (rows : List RuneRow) (id : RuneId) → AllByRecursion (λ (row : RuneRow). is_same row.id id ≡ false) rows → sum_new of rows id ≡ 0
none_new of [] id all = refl
none_new of (row ∷ rows) id all =
    let here : ◌≡◌ {A = ℕ} (if is_same row.id id then of row else 0) 0 = cond-false (is_same row.id id) (of row) 0 all.0 in
    let rest = none_new of rows id all.1 in
    sum_by-cons (λ (r : RuneRow). if is_same r.id id then of r else 0) row rows ∙ omega (arith, here, rest)

pub none_new_at : (of : RuneRow → ℕ) (rows : List RuneRow) (id : RuneId) → ((k : ℕ) (row : RuneRow) → slice_get rows k ≡ Some row → row.id ≡ id → ⊥) → sum_new of rows id ≡ 0
none_new_at of rows id none = none_new of rows id (recursive_from (λ (row : RuneRow). is_same row.id id ≡ false) rows (λ k row there. differ row.id id (none k row there)))

pub one_new : (of : RuneRow → ℕ) (rows : List RuneRow) → AreDistinct (λ row. row.id) rows → (j : ℕ) (row : RuneRow) → slice_get rows j ≡ Some row → sum_new of rows row.id ≡ of row
one_new of [] distinct j row there = let none : None ≡ Some row = there in absurd (cc none)
one_new of (x ∷ rows) distinct zero row there =
    let same : x ≡ row = cc there in
    let here : ◌≡◌ {A = ℕ} (if is_same x.id row.id then of x else 0) (of row) =
    cond-true (is_same x.id row.id) (of x) 0 (ap (λ (r : RuneRow). is_same r.id row.id) same ∙ same_itself row.id) ∙ ap of same in
    let rest : sum_new of rows row.id ≡ 0 = none_new_at of rows row.id (λ k r is like. let e : suc k ≡ 0 = distinct (suc k) 0 r row is there like in absurd (omega (arith, e))) in
    sum_by-cons (λ (r : RuneRow). if is_same r.id row.id then of r else 0) x rows ∙ omega (arith, here, rest)
one_new of (x ∷ rows) distinct (suc j) row there =
    let here : ◌≡◌ {A = ℕ} (if is_same x.id row.id then of x else 0) 0 =
    cond-false (is_same x.id row.id) (of x) 0 (differ x.id row.id (λ like. let e : 0 ≡ suc j = distinct 0 (suc j) x row refl there like in absurd (omega (arith, e)))) in
    let rest = one_new of rows (λ i k a b p q like. let e : suc i ≡ suc k = distinct (suc i) (suc k) a b p q like in omega (arith, e)) j row there in
    sum_by-cons (λ (r : RuneRow). if is_same r.id row.id then of r else 0) x rows ∙ omega (arith, here, rest)

-- ---- what changed counts come to

module _ (of : CountChange → RuneRow → ℕ) (runes : List RuneRow) where
  -- what one change comes to
  abbrev one_of : RuneId → CountChange → ℕ
  one_of id change = option_map_or (λ (row : RuneRow). if is_same row.id id then of change row else 0) (slice_get runes change.place) 0

  none_of : (id : RuneId) (change : CountChange) → ((row : RuneRow) → slice_get runes change.place ≡ Some row → row.id ≡ id → ⊥) → one_of id change ≡ 0
  none_of id change none = by_row (slice_get runes change.place) refl where
    by_row : (found : Option RuneRow) → slice_get runes change.place ≡ found → option_map_or (λ (row : RuneRow). if is_same row.id id then of change row else 0) found 0 ≡ 0
    by_row None is = refl
    by_row (Some row) is = cond-false (is_same row.id id) (of change row) 0 (differ row.id id (none row is))

  -- for a rune that isn't there
  pub none_counted : (counts : List CountChange) (id : RuneId) → ((k : ℕ) (row : RuneRow) → slice_get runes k ≡ Some row → row.id ≡ id → ⊥) → sum_counted of runes counts id ≡ 0
  none_counted [] id none = refl
  none_counted (change ∷ counts) id none =
      let here = none_of id change (λ row is. none change.place row is) in
      let rest = none_counted counts id none in
      sum_by-cons (one_of id) change counts ∙ omega (arith, here, rest)

  module _ (distinct : AreDistinct (λ row. row.id) runes) (k : ℕ) (row : RuneRow) (there : slice_get runes k ≡ Some row) where
    elsewhere : (change : CountChange) → change.place ≢ k → one_of row.id change ≡ 0
    elsewhere change other = none_of row.id change (λ r is like. other (distinct change.place k r row is there like))

    behind : (q : ℕ) (counts : List CountChange) → places_rise q counts ≡ true → k < q → sum_counted of runes counts row.id ≡ 0
    behind q [] rise less = refl
    behind q (change ∷ counts) rise less =
        let parts = and_parts (nat_le q change.place) (places_rise (change.place + 1) counts) rise in
        let from : q ≤ change.place = leb-true q change.place parts.0 in
        let here = elsewhere change (λ same. absurd (omega (arith, from, less, same))) in
        let rest = behind (change.place + 1) counts parts.1 (omega (arith, from, less)) in
        sum_by-cons (one_of row.id) change counts ∙ omega (arith, here, rest)

    -- for a rune that is there
    pub one_counted : (q : ℕ) (counts : List CountChange) → places_rise q counts ≡ true → sum_counted of runes counts row.id ≡ option_map_or (λ (change : CountChange). of change row) (change_at counts k) 0
    one_counted q [] rise = refl
    one_counted q (change ∷ counts) rise = sum_by-cons (one_of row.id) change counts ∙ by_test (one_counted (change.place + 1) counts parts.1) (change.place == k) refl where
      parts : (nat_le q change.place ≡ true) × (places_rise (change.place + 1) counts ≡ true)
      parts = and_parts (nat_le q change.place) (places_rise (change.place + 1) counts) rise

      by_test : sum_counted of runes counts row.id ≡ option_map_or (λ (c : CountChange). of c row) (change_at counts k) 0 → (b : Bool) → (change.place == k) ≡ b
          → one_of row.id change + sum_counted of runes counts row.id ≡ option_map_or (λ (c : CountChange). of c row) (cond b (Some change) (change_at counts k)) 0
      by_test rest true is =
          let at : change.place ≡ k = eqb-true change.place k is in
          let here : one_of row.id change ≡ of change row =
          ap (λ (found : Option RuneRow). option_map_or (λ (r : RuneRow). if is_same r.id row.id then of change r else 0) found 0) (ap (slice_get runes) at ∙ there)
          ∙ cond-true (is_same row.id row.id) (of change row) 0 (same_itself row.id) in
          let none : sum_counted of runes counts row.id ≡ 0 = behind (change.place + 1) counts parts.1 (omega (arith, at)) in
          let sum : one_of row.id change + sum_counted of runes counts row.id ≡ of change row = omega (arith, here, none) in
          sum
      by_test rest false is =
          let here = elsewhere change (λ same. absurd (false≢true (sym is ∙ eq-eqb change.place k same))) in
          let sum : one_of row.id change + sum_counted of runes counts row.id ≡ option_map_or (λ (c : CountChange). of c row) (change_at counts k) 0 = omega (arith, here, rest) in
          sum
