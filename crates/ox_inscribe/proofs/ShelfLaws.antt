-- How the numbers of rows change where rows are appended, dropped and hidden.
use Rattle.std.proofs.Common.{inl, inr, ◌≡◌, ◌∙◌, ◌<◌, ◌≤◌, ℕ, zero, suc, ◌+◌, ◌-◌, Bool, true, false, cond, List, [], ◌∷◌, ◌++◌, length, take, refl, sym, ap, arith, Option, Some, None, nat_lt, length-append}
use Rattle.std.specs.Prelude.{◌⊎◌, ◌==◌, filter, min, not, slice_get}
use Rattle.std.specs.List.{prefix_len}
use Rattle.std.specs.Option.{option_map_or}
use Rattle.std.proofs.lemmas.Bool.{cases_lt, cond-false, cond-true, eq-eqb, false_from_ne_true, le-ltb, lt-ltb, true≢false}
use Rattle.std.proofs.lemmas.List.{length-take}
use Rattle.std.proofs.lemmas.List.Sums.{prefix_len-le-length}
use Rattle.ox_envelope.specs.declared.id.InsId.{InsId}
use Rattle.std.proofs.lemmas.Map.Keys.{any_passes_from_place}
use Rattle.std.proofs.lemmas.Option.{slice_get_past}
use Rattle.ox_inscribe.specs.Inscriptions.{find, is_same_id, numbers_where}
use Rattle.ox_inscribe.specs.Numbers.{is_among}
use Rattle.ox_inscribe.specs.Shelved.{ends_with, with_last, without_last}
use Rattle.ox_inscribe.specs.declared.row.InsRow.{InsRow}
use Rattle.ox_inscribe.proofs.NumberLaws.{numbers_pass}

-- ---- a row more

pub numbers_append : (passes : InsRow → Bool) (from : ℕ) (rows : List InsRow) (row : InsRow) → numbers_where passes from (rows ++ row ∷ []) ≡ cond (passes row) (numbers_where passes from rows ++ (from + length rows) ∷ []) (numbers_where passes from rows)
unfolding numbers_where
numbers_append passes from [] row = let same : from ≡ from + 0 = omega arith in ap (λ (n : ℕ). cond (passes row) (n ∷ []) []) same
numbers_append passes from (first ∷ rows) row = by_tests (passes first) (passes row) (numbers_append passes (from + 1) rows row) where
  by_tests : (one other : Bool) → numbers_where passes (from + 1) (rows ++ row ∷ []) ≡ cond other (numbers_where passes (from + 1) rows ++ (from + 1 + length rows) ∷ []) (numbers_where passes (from + 1) rows) → cond one (from ∷ numbers_where passes (from + 1) (rows ++ row ∷ [])) (numbers_where passes (from + 1) (rows ++ row ∷ [])) ≡ cond other (cond one (from ∷ numbers_where passes (from + 1) rows) (numbers_where passes (from + 1) rows) ++ (from + suc (length rows)) ∷ []) (cond one (from ∷ numbers_where passes (from + 1) rows) (numbers_where passes (from + 1) rows))
  by_tests true true later = let same : from + 1 + length rows ≡ from + suc (length rows) = omega arith in ap (λ (rest : List ℕ). from ∷ rest) (later ∙ ap (λ (n : ℕ). numbers_where passes (from + 1) rows ++ n ∷ []) same)
  by_tests true false later = ap (λ (rest : List ℕ). from ∷ rest) later
  by_tests false true later = let same : from + 1 + length rows ≡ from + suc (length rows) = omega arith in later ∙ ap (λ (n : ℕ). numbers_where passes (from + 1) rows ++ n ∷ []) same
  by_tests false false later = later

-- ---- the last number

last_among : (number : ℕ) (numbers : List ℕ) (k : ℕ) (last : Option ℕ) → slice_get numbers k ≡ last → option_map_or (λ n. n == number) last false ≡ true → is_among number numbers ≡ true
last_among number numbers k None there is = absurd (true≢false (sym is))
last_among number numbers k (Some n) there is = any_passes_from_place (λ (m : ℕ). m == number) numbers k n there is

-- the next row's number isn't there yet
pub no_last : (passes : InsRow → Bool) (rows : List InsRow) (number : ℕ) → number ≡ length rows → ends_with number (numbers_where passes 0 rows) ≡ false
no_last passes rows number is = false_from_ne_true _ (λ ends.
    let numbers = numbers_where passes 0 rows in
    let there : is_among number numbers ≡ true = last_among number numbers (length numbers - 1) (slice_get numbers (length numbers - 1)) refl ends in
    let absent : is_among number numbers ≡ false = numbers_pass passes 0 number number rows (omega arith) ∙ ap (λ (row : Option InsRow). option_map_or passes row false) (slice_get_past rows number (omega arith)) in
    true≢false (sym there ∙ absent))

get_last : (numbers : List ℕ) (number : ℕ) → slice_get (numbers ++ number ∷ []) (length numbers) ≡ Some number
get_last [] number = refl
get_last (first ∷ numbers) number = get_last numbers number

take_all : (numbers more : List ℕ) → take (length numbers) (numbers ++ more) ≡ numbers
take_all [] more = refl
take_all (first ∷ numbers) more = ap (λ (rest : List ℕ). first ∷ rest) (take_all numbers more)

ends : (numbers : List ℕ) (number : ℕ) → ends_with number (numbers ++ number ∷ []) ≡ true
ends numbers number =
    let before : length (numbers ++ number ∷ []) - 1 ≡ length numbers = omega (arith, length-append numbers (number ∷ [])) in
    ap (λ (k : ℕ). option_map_or (λ n. n == number) (slice_get (numbers ++ number ∷ []) k) false) before
    ∙ ap (λ (last : Option ℕ). option_map_or (λ n. n == number) last false) (get_last numbers number)
    ∙ eq-eqb number number refl

pub last_goes : (numbers : List ℕ) (number : ℕ) → without_last number (numbers ++ number ∷ []) ≡ numbers
last_goes numbers number =
    let before : length (numbers ++ number ∷ []) - 1 ≡ length numbers = omega (arith, length-append numbers (number ∷ [])) in
    cond-true _ _ _ (ends numbers number) ∙ ap (λ (k : ℕ). take k (numbers ++ number ∷ [])) before ∙ take_all numbers (number ∷ [])

pub last_comes_once : (numbers : List ℕ) (number : ℕ) → with_last number (numbers ++ number ∷ []) ≡ numbers ++ number ∷ []
last_comes_once numbers number = cond-true _ _ _ (ends numbers number)

-- ---- rows that aren't shown

pub none_before : (passes : InsRow → Bool) (from end : ℕ) (rows : List InsRow) → end ≤ from → filter (λ n. nat_lt n end) (numbers_where passes from rows) ≡ []
unfolding numbers_where
none_before passes from end [] low = refl
none_before passes from end (row ∷ rows) low = by_test (passes row) (none_before passes (from + 1) end rows (omega arith)) where
  by_test : (passed : Bool) → filter (λ n. nat_lt n end) (numbers_where passes (from + 1) rows) ≡ [] → filter (λ n. nat_lt n end) (cond passed (from ∷ numbers_where passes (from + 1) rows) (numbers_where passes (from + 1) rows)) ≡ []
  by_test true later = cond-false _ _ _ (le-ltb from end low) ∙ later
  by_test false later = later

-- the numbers of the first rows are those below the end of these
pub numbers_cut : (passes : InsRow → Bool) (from count end : ℕ) (rows : List InsRow) → end ≡ from + count → filter (λ n. nat_lt n end) (numbers_where passes from rows) ≡ numbers_where passes from (take count rows)
unfolding numbers_where
numbers_cut passes from zero end rows is = none_before passes from end rows (omega arith)
numbers_cut passes from (suc count) end [] is = refl
numbers_cut passes from (suc count) end (row ∷ rows) is = by_test (passes row) (numbers_cut passes (from + 1) count end rows (omega arith)) where
  by_test : (passed : Bool) → filter (λ n. nat_lt n end) (numbers_where passes (from + 1) rows) ≡ numbers_where passes (from + 1) (take count rows) → filter (λ n. nat_lt n end) (cond passed (from ∷ numbers_where passes (from + 1) rows) (numbers_where passes (from + 1) rows)) ≡ cond passed (from ∷ numbers_where passes (from + 1) (take count rows)) (numbers_where passes (from + 1) (take count rows))
  by_test true later = cond-true _ _ _ (lt-ltb from end (omega arith)) ∙ ap (λ (rest : List ℕ). from ∷ rest) later
  by_test false later = later

-- ---- ids

abbrev shown_first : ℕ → Option ℕ → Option ℕ
shown_first end None = None
shown_first end (Some n) = cond (nat_lt n end) (Some n) None

prefix_cut : (passes : InsRow → Bool) (n : ℕ) (rows : List InsRow) → prefix_len passes (take n rows) ≡ min n (prefix_len passes rows)
prefix_cut passes zero rows = omega arith
prefix_cut passes (suc n) [] = omega arith
prefix_cut passes (suc n) (row ∷ rows) = by_test (passes row) (prefix_cut passes n rows) where
  by_test : (passed : Bool) → prefix_len passes (take n rows) ≡ min n (prefix_len passes rows) → cond passed (1 + prefix_len passes (take n rows)) 0 ≡ min (suc n) (cond passed (1 + prefix_len passes rows) 0)
  by_test true later = omega arith
  by_test false later = omega arith

first_cut : (n place all place_cut all_cut : ℕ) → place ≤ all → place_cut ≡ min n place → all_cut ≡ min n all → cond (nat_lt place_cut all_cut) (Some place_cut) None ≡ shown_first n (cond (nat_lt place all) (Some place) None)
first_cut n place all place_cut all_cut low is end = by_found (cases_lt place all) where
  by_shown : place < all → (place < n) ⊎ (n ≤ place) → cond (nat_lt place_cut all_cut) (Some place_cut) None ≡ cond (nat_lt place n) (Some place) None
  by_shown found (inl shown) =
      cond-true _ _ _ (lt-ltb place_cut all_cut (omega arith))
      ∙ (let same : place_cut ≡ place = omega arith in ap (λ (k : ℕ). Some k) same)
      ∙ sym (cond-true _ _ _ (lt-ltb place n shown))
  by_shown found (inr hidden) = cond-false _ _ _ (le-ltb place_cut all_cut (omega arith)) ∙ sym (cond-false _ _ _ (le-ltb place n hidden))

  by_found : (place < all) ⊎ (all ≤ place) → cond (nat_lt place_cut all_cut) (Some place_cut) None ≡ shown_first n (cond (nat_lt place all) (Some place) None)
  by_found (inl found) = by_shown found (cases_lt place n) ∙ ap (shown_first n) (sym (cond-true _ _ _ (lt-ltb place all found)))
  by_found (inr none) = cond-false _ _ _ (le-ltb place_cut all_cut (omega arith)) ∙ ap (shown_first n) (sym (cond-false _ _ _ (le-ltb place all none)))

pub find_cut : (rows : List InsRow) (n : ℕ) (id : InsId) → find (take n rows) id ≡ shown_first n (find rows id)
find_cut rows n id =
    let other = λ (row : InsRow). not (is_same_id row.id id) in
    first_cut n (prefix_len other rows) (length rows) (prefix_len other (take n rows)) (length (take n rows)) (prefix_len-le-length other rows) (prefix_cut other n rows) (length-take n rows)

pub find_none : (rows : List InsRow) (n : ℕ) (id : InsId) → find rows id ≡ None → find (take n rows) id ≡ None
find_none rows n id none = find_cut rows n id ∙ ap (shown_first n) none

pub find_shown : (rows : List InsRow) (n number : ℕ) (id : InsId) → find rows id ≡ Some number → number < n → find (take n rows) id ≡ Some number
find_shown rows n number id some shown = find_cut rows n id ∙ ap (shown_first n) some ∙ cond-true _ _ _ (lt-ltb number n shown)

pub find_hidden : (rows : List InsRow) (n number : ℕ) (id : InsId) → find rows id ≡ Some number → n ≤ number → find (take n rows) id ≡ None
find_hidden rows n number id some hidden = find_cut rows n id ∙ ap (shown_first n) some ∙ cond-false _ _ _ (le-ltb number n hidden)
