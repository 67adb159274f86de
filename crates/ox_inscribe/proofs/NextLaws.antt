-- The next satoshi with a row is the least of them from a number up.
use Rattle.std.proofs.Common.{inl, inr, ◌≡◌, ◌≢◌, ◌<◌, ◌≤◌, ℕ, ◌+◌, Bool, true, false, cond, List, [], ◌∷◌, refl, subst, arith, Option, Some, None, nat_lt}
use Rattle.std.specs.Prelude.{◌⊎◌, ◌==◌, ◌||◌, min, option_map}
use Rattle.std.specs.Option.{option_map_or}
use Rattle.std.specs.List.{list_any}
use Rattle.std.proofs.lemmas.Bool.{cases_lt, eq-eqb, ltb-false, ltb-true, ne_eqb, or_from, or_left, or_right}
use Rattle.ox_inscribe.specs.Inscriptions.{is_on, lesser_from, next_on, next_sat, numbers_where, on}
use Rattle.ox_inscribe.specs.Numbers.{IsNextOn}
use Rattle.ox_inscribe.specs.declared.row.InsRow.{InsRow}

-- the least number from one up that passes a test
record IsLeast (passes : ℕ → Bool) (low least : ℕ) : Type 0 where
  from : low ≤ least
  passed : passes least ≡ true
  first : (n : ℕ) → low ≤ n → n < least → passes n ≡ false

abbrev IsNext : (ℕ → Bool) → ℕ → Option ℕ → Type 0
IsNext passes low None = (n : ℕ) → low ≤ n → passes n ≡ false
IsNext passes low (Some least) = IsLeast passes low least

-- one more number passes
abbrev with_one : ℕ → (ℕ → Bool) → ℕ → Bool
with_one sat passes n = (sat == n) || passes n

alone : (passes : ℕ → Bool) (low sat : ℕ) → IsNext passes low None → (below : Bool) → nat_lt sat low ≡ below → IsNext (with_one sat passes) low (cond below None (Some sat))
alone passes low sat none true below = λ n from. let under : sat < low = ltb-true sat low below in or_from _ _ (ne_eqb sat n (λ (e : sat ≡ n). omega arith)) (none n from)
alone passes low sat none false above = record {
  from = ltb-false sat low above;
  passed = or_left _ _ (eq-eqb sat sat refl);
  first = λ n from less. or_from _ _ (ne_eqb sat n (λ (e : sat ≡ n). omega arith)) (none n from);
}

passes_lesser : (passes : ℕ → Bool) (sat least : ℕ) → passes least ≡ true → with_one sat passes (min sat least) ≡ true
passes_lesser passes sat least passed = by_order (cases_lt least sat) where
  by_order : (least < sat) ⊎ (sat ≤ least) → with_one sat passes (min sat least) ≡ true
  by_order (inl less) = let same : least ≡ min sat least = omega arith in or_right _ _ (subst (λ (n : ℕ). passes n ≡ true) same passed)
  by_order (inr no_less) = or_left _ _ (eq-eqb sat (min sat least) (omega arith))

beside : (passes : ℕ → Bool) (low sat least : ℕ) → IsLeast passes low least → (below : Bool) → nat_lt sat low ≡ below → IsNext (with_one sat passes) low (cond below (Some least) (Some (min sat least)))
beside passes low sat least is true below = let under : sat < low = ltb-true sat low below in record {
  from = is.from;
  passed = or_right _ _ is.passed;
  first = λ n from less. or_from _ _ (ne_eqb sat n (λ (e : sat ≡ n). omega arith)) (is.first n from less);
}
beside passes low sat least is false above = let over : low ≤ sat = ltb-false sat low above in record {
  from = let old : low ≤ least = is.from in omega arith;
  passed = passes_lesser passes sat least is.passed;
  first = λ n from less. or_from _ _ (ne_eqb sat n (λ (e : sat ≡ n). omega arith)) (is.first n from (omega arith));
}

with_row : (passes : ℕ → Bool) (low : ℕ) (sat least : Option ℕ) → IsNext passes low least → IsNext (λ n. option_map_or (λ s. s == n) sat false || passes n) low (lesser_from low sat least)
with_row passes low None least is = is
with_row passes low (Some sat) None is = alone passes low sat is (nat_lt sat low) refl
with_row passes low (Some sat) (Some least) is = beside passes low sat least is (nat_lt sat low) refl

next_is : (rows : List InsRow) (low : ℕ) → IsNext (λ n. list_any (is_on n) rows) low (next_sat rows low)
unfolding next_sat
next_is [] low = λ n from. refl
next_is (row ∷ rows) low = with_row (λ n. list_any (is_on n) rows) low row.sat (next_sat rows low) (next_is rows low)

-- there is a number where a row passes, and none where none does
none_pass : (passes : InsRow → Bool) (from : ℕ) (rows : List InsRow) → list_any passes rows ≡ false → numbers_where passes from rows ≡ []
unfolding numbers_where
none_pass passes from [] none = refl
none_pass passes from (row ∷ rows) none = by_test (passes row) none (none_pass passes (from + 1) rows) where
  by_test : (passed : Bool) → (passed || list_any passes rows) ≡ false → (list_any passes rows ≡ false → numbers_where passes (from + 1) rows ≡ []) → cond passed (from ∷ numbers_where passes (from + 1) rows) (numbers_where passes (from + 1) rows) ≡ []
  by_test true none later = absurd (cc none)
  by_test false none later = later none

one_passes : (passes : InsRow → Bool) (from : ℕ) (rows : List InsRow) → list_any passes rows ≡ true → numbers_where passes from rows ≢ []
unfolding numbers_where
one_passes passes from [] some = absurd (cc some)
one_passes passes from (row ∷ rows) some = by_test (passes row) some (one_passes passes (from + 1) rows) where
  by_test : (passed : Bool) → (passed || list_any passes rows) ≡ true → (list_any passes rows ≡ true → numbers_where passes (from + 1) rows ≢ []) → cond passed (from ∷ numbers_where passes (from + 1) rows) (numbers_where passes (from + 1) rows) ≢ []
  by_test true some later = λ none. cc none
  by_test false some later = later some

shown_on : (rows : List InsRow) (low : ℕ) (next : Option ℕ) → IsNext (λ n. list_any (is_on n) rows) low next → IsNextOn rows low (option_map (λ sat. (sat, on rows sat)) next)
shown_on rows low None is = λ sat from. none_pass (is_on sat) 0 rows (is sat from)
shown_on rows low (Some sat) is = record {
  from = is.from;
  numbers = refl;
  some = one_passes (is_on sat) 0 rows is.passed;
  first = λ n from less. none_pass (is_on n) 0 rows (is.first n from less);
}

pub next_shown : (rows : List InsRow) (low : ℕ) → IsNextOn rows low (next_on rows low)
next_shown rows low = shown_on rows low (next_sat rows low) (next_is rows low)
