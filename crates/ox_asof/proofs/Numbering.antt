-- The numbers of the rows that are there are those below their end.
use Rattle.std.proofs.Common.{inl, inr, ◌≡◌, ◌∙◌, ◌<◌, ◌≤◌, ℕ, zero, suc, ◌+◌, Bool, true, false, cond, not, List, [], ◌∷◌, length, take, filter, refl, sym, ap, subst, arith, Option, Some, None, nat_lt, position, slice_get}
use Rattle.std.specs.Prelude.{◌⊎◌, ◌==◌, min}
use Rattle.std.specs.List.{prefix_len}
use Rattle.std.specs.List.Sorted.{IsStrictlyIncreasing}
use Rattle.std.specs.Option.{option_map_or}
use Rattle.std.proofs.lemmas.Bool.{cases_lt, cond-false, cond-true, le-ltb, lt-ltb}
use Rattle.std.proofs.lemmas.List.{length-take}
use Rattle.std.proofs.lemmas.List.Sums.{prefix_len-le-length}
use Rattle.ox_runestone.specs.declared.stone.RuneId.{RuneId}
use Rattle.ox_allocation.specs.Balances.{is_same}
use Rattle.ox_envelope.specs.declared.id.InsId.{InsId}
use Rattle.ox_inscribe.specs.Inscriptions.{children, children_of, find, has_parent, is_on, is_same_id, numbers_where, on}
use Rattle.ox_inscribe.specs.declared.row.InsRow.{InsRow}
use Rattle.ox_inscribe.proofs.NumberLaws.{numbers_rise}
use Rattle.ox_inscribe.proofs.ShelfLaws.{numbers_cut}
use Rattle.ox_etching.specs.declared.row.RuneRow.{RuneRow}
use Rattle.ox_ledger.specs.Part.{Continues, counts_of, with_counts}
use Rattle.ox_ledger.proofs.PartLemmas.{goes_on_longer}
use Rattle.ox_model.specs.Found.{by_id, by_name}
use Rattle.ox_asof.specs.Past.{number_below}
use Rattle.ox_asof.proofs.Fronts.{IsFront, get_whole}

-- ---- the first place at which a test is passed

-- the first place of the front is that of the whole, if it is in the front
pub first_below : (n place all place_cut all_cut : ℕ) → place ≤ all → place_cut ≡ min n place → all_cut ≡ min n all
    → cond (nat_lt place_cut all_cut) (Some place_cut) None ≡ number_below n (cond (nat_lt place all) (Some place) None)
first_below n place all place_cut all_cut low is end = by_found (cases_lt place all) where
  by_shown : place < all → (place < n) ⊎ (n ≤ place) → cond (nat_lt place_cut all_cut) (Some place_cut) None ≡ cond (nat_lt place n) (Some place) None
  by_shown found (inl shown) =
      cond-true _ _ _ (lt-ltb place_cut all_cut (omega (arith, found, shown, is, end)))
      ∙ (let same : place_cut ≡ place = omega (arith, shown, is) in ap (λ (k : ℕ). Some k) same)
      ∙ sym (cond-true _ _ _ (lt-ltb place n shown))
  by_shown found (inr hidden) = cond-false _ _ _ (le-ltb place_cut all_cut (omega (arith, found, hidden, is, end))) ∙ sym (cond-false _ _ _ (le-ltb place n hidden))

  by_found : (place < all) ⊎ (all ≤ place) → cond (nat_lt place_cut all_cut) (Some place_cut) None ≡ number_below n (cond (nat_lt place all) (Some place) None)
  by_found (inl found) = by_shown found (cases_lt place n) ∙ ap (number_below n) (sym (cond-true _ _ _ (lt-ltb place all found)))
  by_found (inr none) = cond-false _ _ _ (le-ltb place_cut all_cut (omega (arith, low, none, is, end))) ∙ sym (ap (number_below n) (cond-false _ _ _ (le-ltb place all none)))

prefix_below : {A : Type 0} (passes : A → Bool) (n : ℕ) (xs : List A) → prefix_len passes (take n xs) ≡ min n (prefix_len passes xs)
prefix_below passes zero xs = omega arith
prefix_below passes (suc n) [] = omega arith
prefix_below passes (suc n) (x ∷ xs) = by_test (passes x) (prefix_below passes n xs) where
  by_test : (passed : Bool) → prefix_len passes (take n xs) ≡ min n (prefix_len passes xs) → cond passed (1 + prefix_len passes (take n xs)) 0 ≡ min (suc n) (cond passed (1 + prefix_len passes xs) 0)
  by_test true later = omega (arith, later)
  by_test false later = omega arith

pub position_below : {A : Type 0} (passes : A → Bool) (n : ℕ) (xs : List A) → position passes (take n xs) ≡ number_below n (position passes xs)
position_below passes n xs =
    first_below n (prefix_len (λ x. not (passes x)) xs) (length xs) (prefix_len (λ x. not (passes x)) (take n xs)) (length (take n xs))
    (prefix_len-le-length (λ x. not (passes x)) xs) (prefix_below (λ x. not (passes x)) n xs) (length-take n xs)

-- ---- inscriptions

pub find_front : (front whole : List InsRow) (n : ℕ) (id : InsId) → IsFront front whole → n ≡ length front → number_below n (find whole id) ≡ find front id
find_front front whole n id is long =
    ap (λ (k : ℕ). number_below k (find whole id)) long
    ∙ sym (position_below (λ row. is_same_id row.id id) (length front) whole)
    ∙ ap (λ (rows : List InsRow). find rows id) (sym is.is)

numbers_front : (passes : InsRow → Bool) (front whole : List InsRow) (n : ℕ) → IsFront front whole → n ≡ length front
    → filter (λ k. nat_lt k n) (numbers_where passes 0 whole) ≡ numbers_where passes 0 front
numbers_front passes front whole n is long =
    ap (λ (k : ℕ). filter (λ j. nat_lt j k) (numbers_where passes 0 whole)) long
    ∙ numbers_cut passes 0 (length front) (length front) whole (omega arith)
    ∙ ap (numbers_where passes 0) (sym is.is)

pub on_front : (front whole : List InsRow) (n sat : ℕ) → IsFront front whole → n ≡ length front → filter (λ k. nat_lt k n) (on whole sat) ≡ on front sat
on_front front whole n sat = numbers_front (is_on sat) front whole n

pub on_rises : (rows : List InsRow) (sat : ℕ) (numbers : List ℕ) → numbers ≡ on rows sat → IsStrictlyIncreasing numbers
on_rises rows sat numbers is = subst IsStrictlyIncreasing (sym is) (numbers_rise (is_on sat) 0 rows)

children_rise_of : (rows : List InsRow) (row : Option InsRow) → IsStrictlyIncreasing (option_map_or (children_of rows) row [])
unfolding numbers_where
children_rise_of rows (Some row) = numbers_rise (has_parent row.id) 0 rows
children_rise_of rows None = numbers_rise (λ row. false) 0 []

pub children_rise : (rows : List InsRow) (of : ℕ) (numbers : List ℕ) → numbers ≡ children rows of → IsStrictlyIncreasing numbers
children_rise rows of numbers is = subst IsStrictlyIncreasing (sym is) (children_rise_of rows (slice_get rows of))

pub children_front : (front whole : List InsRow) (n of : ℕ) → IsFront front whole → n ≡ length front → of < length front
    → filter (λ k. nat_lt k n) (children whole of) ≡ children front of
children_front front whole n of is long less =
    by_row (slice_get whole of)
    ∙ ap (λ (row : Option InsRow). option_map_or (children_of front) row []) (sym (get_whole front whole of is less))
  where
    by_row : (row : Option InsRow) → filter (λ k. nat_lt k n) (option_map_or (children_of whole) row []) ≡ option_map_or (children_of front) row []
    by_row (Some row) = numbers_front (has_parent row.id) front whole n is long
    by_row None = refl

-- ---- runes

module _ (passes : RuneRow → Bool) (alike : (row : RuneRow) (other : RuneRow) → other ≡ with_counts row (counts_of other) → passes other ≡ passes row) where
  prefix_before : (before after : List RuneRow) → Continues before after → prefix_len (λ row. not (passes row)) before ≡ min (length before) (prefix_len (λ row. not (passes row)) after)
  prefix_before [] after go = omega arith
  prefix_before (old ∷ before) [] go = absurd go
  prefix_before (old ∷ before) (new ∷ after) go = by_test (passes old) (passes new) (alike old new go.0) (prefix_before before after go.1) where
    by_test : (one other : Bool) → other ≡ one → prefix_len (λ row. not (passes row)) before ≡ min (length before) (prefix_len (λ row. not (passes row)) after)
        → cond (not one) (1 + prefix_len (λ row. not (passes row)) before) 0 ≡ min (suc (length before)) (cond (not other) (1 + prefix_len (λ row. not (passes row)) after) 0)
    by_test true true same later = omega arith
    by_test false false same later = omega (arith, later)
    by_test true false same later = absurd (cc same)
    by_test false true same later = absurd (cc same)

  position_before : (before after : List RuneRow) → Continues before after → position passes before ≡ number_below (length before) (position passes after)
  position_before before after go =
      let longer : length before ≤ length after = goes_on_longer before after go in
      first_below (length before) (prefix_len (λ row. not (passes row)) after) (length after) (prefix_len (λ row. not (passes row)) before) (length before)
      (prefix_len-le-length (λ row. not (passes row)) after) (prefix_before before after go) (omega (arith, longer))

pub name_before : (before after : List RuneRow) (n name : ℕ) → Continues before after → n ≡ length before → number_below n (by_name after name) ≡ by_name before name
name_before before after n name go long =
    ap (λ (k : ℕ). number_below k (by_name after name)) long
    ∙ sym (position_before (λ row. row.name == name) (λ row other is. ap (λ (r : RuneRow). r.name == name) is) before after go)

pub id_before : (before after : List RuneRow) (n : ℕ) (id : RuneId) → Continues before after → n ≡ length before → number_below n (by_id after id) ≡ by_id before id
id_before before after n id go long =
    ap (λ (k : ℕ). number_below k (by_id after id)) long
    ∙ sym (position_before (λ row. is_same row.id id) (λ row other is. ap (λ (r : RuneRow). is_same r.id id) is) before after go)
