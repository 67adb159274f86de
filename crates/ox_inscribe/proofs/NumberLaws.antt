-- The numbers of the rows that pass a test are just those, and rise.
use Rattle.std.proofs.Common.{◌≡◌, ◌∙◌, ◌<◌, ℕ, zero, suc, ◌+◌, Bool, true, false, cond, List, [], ◌∷◌, refl, ap, arith}
use Rattle.std.specs.Prelude.{◌||◌, slice_get}
use Rattle.std.specs.Option.{option_map_or}
use Rattle.std.specs.List.{AllByRecursion}
use Rattle.std.specs.List.Sorted.{IsStrictlyIncreasing, IsStrictlySortedBy}
use Rattle.std.specs.Ordering.{nat_cmp}
use Rattle.std.specs.declared.cmp.Ordering.TheVariants.{Less}
use Rattle.std.proofs.lemmas.Bool.{cond-true, eq-eqb, lt-ltb, ne_eqb, or_from, or_left}
use Rattle.std.proofs.lemmas.Map.Keys.{IsStrictlyIncreasing-from_sorted}
use Rattle.ox_inscribe.specs.Inscriptions.{numbers_where}
use Rattle.ox_inscribe.specs.Numbers.{is_among}
use Rattle.ox_inscribe.specs.declared.row.InsRow.{InsRow}

-- the numbers begin at this one
none_below : (passes : InsRow → Bool) (from n : ℕ) (rows : List InsRow) → n < from → is_among n (numbers_where passes from rows) ≡ false
unfolding numbers_where
none_below passes from n [] below = refl
none_below passes from n (row ∷ rows) below = by_test (passes row) (none_below passes (from + 1) n rows (omega arith)) where
  by_test : (passed : Bool) → is_among n (numbers_where passes (from + 1) rows) ≡ false → is_among n (cond passed (from ∷ numbers_where passes (from + 1) rows) (numbers_where passes (from + 1) rows)) ≡ false
  by_test true later = or_from _ _ (ne_eqb from n (λ (e : from ≡ n). omega arith)) later
  by_test false later = later

pub numbers_pass : (passes : InsRow → Bool) (from n k : ℕ) (rows : List InsRow) → n ≡ from + k → is_among n (numbers_where passes from rows) ≡ option_map_or passes (slice_get rows k) false
unfolding numbers_where
numbers_pass passes from n k [] is = refl
numbers_pass passes from n zero (row ∷ rows) is = by_test (passes row) (none_below passes (from + 1) n rows (omega arith)) where
  by_test : (passed : Bool) → is_among n (numbers_where passes (from + 1) rows) ≡ false → is_among n (cond passed (from ∷ numbers_where passes (from + 1) rows) (numbers_where passes (from + 1) rows)) ≡ passed
  by_test true later = or_left _ _ (eq-eqb from n (omega arith))
  by_test false later = later
numbers_pass passes from n (suc k) (row ∷ rows) is = by_test (passes row) (numbers_pass passes (from + 1) n k rows (omega arith)) where
  by_test : (passed : Bool) → is_among n (numbers_where passes (from + 1) rows) ≡ option_map_or passes (slice_get rows k) false → is_among n (cond passed (from ∷ numbers_where passes (from + 1) rows) (numbers_where passes (from + 1) rows)) ≡ option_map_or passes (slice_get rows k) false
  by_test true later = ap (λ (b : Bool). b || is_among n (numbers_where passes (from + 1) rows)) (ne_eqb from n (λ (e : from ≡ n). omega arith)) ∙ later
  by_test false later = later

-- ---- they rise

less : (a b : ℕ) → a < b → nat_cmp a b ≡ Less
less a b below = cond-true _ _ _ (lt-ltb a b below)

all_above : (passes : InsRow → Bool) (low from : ℕ) (rows : List InsRow) → low < from → AllByRecursion (λ n. nat_cmp low n ≡ Less) (numbers_where passes from rows)
unfolding numbers_where
all_above passes low from [] below = tt
all_above passes low from (row ∷ rows) below = by_test (passes row) (all_above passes low (from + 1) rows (omega arith)) where
  by_test : (passed : Bool) → AllByRecursion (λ n. nat_cmp low n ≡ Less) (numbers_where passes (from + 1) rows) → AllByRecursion (λ n. nat_cmp low n ≡ Less) (cond passed (from ∷ numbers_where passes (from + 1) rows) (numbers_where passes (from + 1) rows))
  by_test true later = (less low from below, later)
  by_test false later = later

sorted : (passes : InsRow → Bool) (from : ℕ) (rows : List InsRow) → IsStrictlySortedBy nat_cmp (numbers_where passes from rows)
unfolding numbers_where IsStrictlySortedBy
sorted passes from [] = tt
sorted passes from (row ∷ rows) = by_test (passes row) (sorted passes (from + 1) rows) where
  by_test : (passed : Bool) → IsStrictlySortedBy nat_cmp (numbers_where passes (from + 1) rows) → IsStrictlySortedBy nat_cmp (cond passed (from ∷ numbers_where passes (from + 1) rows) (numbers_where passes (from + 1) rows))
  by_test true later = (all_above passes from (from + 1) rows (omega arith), later)
  by_test false later = later

pub numbers_rise : (passes : InsRow → Bool) (from : ℕ) (rows : List InsRow) → IsStrictlyIncreasing (numbers_where passes from rows)
numbers_rise passes from rows = IsStrictlyIncreasing-from_sorted _ (sorted passes from rows)
