-- The rows of a page, one by one.
use Rattle.std.proofs.Common.{◌≡◌, ℕ, Bool, ◌+◌, ◌-◌, ◌*◌, ◌<◌, ◌≤◌, min, List, [], ◌∷◌, ◌++◌, length, get_or, take, drop, map, Some, sym, ap, ◌∙◌, arith}
use Rattle.std.specs.Prelude.{nat_lt, slice_get}
use Rattle.std.proofs.lemmas.List.{drop_min, length-drop, take_more, get_or-drop, take_min}
use Rattle.std.proofs.lemmas.Option.{get_or_from_slice_get, slice_get_within}
use Rattle.json.specs.Token.{begin_array, end_array}
use Rattle.serde_json.specs.Data.{Data, array}
use Rattle.serde_json.specs.View.{items_of}
use Rattle.ox_replies.specs.Pages.{entries_of, has_more}
use Rattle.ox_query.specs.Paged.{rows_between}
use Rattle.ox_query.specs.Written.{Adds, tokens_of, tokens_of_all}
use Rattle.ox_query.specs.declared.bodies.Body.{Body}
use Rattle.ox_query.proofs.Arrays.{begun, bracketed, one_behind}
use Rattle.ox_query.proofs.Steps.{same, ◌▸◌}

module _ {A : Type 0} where
  pub none_yet : (rows : List A) (first : ℕ) → rows_between rows first first ≡ []
  none_yet rows first = let none : first - first ≡ 0 = omega arith in ap (λ n. take n (drop first rows)) none

  next_row : (rows : List A) (first n : ℕ) (row : A) → first ≤ n → slice_get rows n ≡ Some row
      → rows_between rows first (n + 1) ≡ rows_between rows first n ++ row ∷ []
  next_row rows first n row from there =
      let within : n < length rows = slice_get_within rows n row there in
      let many : n - first < length (drop first rows) = omega (arith, length-drop first rows, within, from) in
      let count : n + 1 - first ≡ (n - first) + 1 = omega (arith, from) in
      let place : first + (n - first) ≡ n = omega (arith, from) in
      let here : get_or (drop first rows) (n - first) row ≡ row =
      get_or-drop first rows (n - first) row ∙ ap (λ k. get_or rows k row) place ∙ get_or_from_slice_get rows n row row there in
      ap (λ k. take k (drop first rows)) count ∙ take_more (drop first rows) (n - first) row many
      ∙ ap (λ x. take (n - first) (drop first rows) ++ x ∷ []) here

  module _ (told : A → Data) (rows : List A) where
    -- nothing is written of no row
    pub none_written : {old new : Body} (first : ℕ) → Adds old new (begin_array ∷ []) → Adds old new (begin_array ∷ tokens_of_all (map told (rows_between rows first first)))
    none_written first is = same (λ (xs : List A). begin_array ∷ tokens_of_all (map told xs)) (sym (none_yet rows first)) is

    -- one row more is written
    pub one_row_more : {old so_far new : Body} (first n : ℕ) (row : A) → first ≤ n → slice_get rows n ≡ Some row
        → Adds old so_far (begin_array ∷ tokens_of_all (map told (rows_between rows first n))) → Adds so_far new (tokens_of (told row))
        → Adds old new (begin_array ∷ tokens_of_all (map told (rows_between rows first (n + 1))))
    one_row_more first n row from there is here =
        same begun (one_behind told (rows_between rows first n) row ∙ ap (λ (xs : List A). tokens_of_all (map told xs)) (sym (next_row rows first n row from there))) (is ▸ here)

    -- all rows up to the end are written
    pub rows_written : {old all new : Body} (first n end : ℕ) → n ≡ end
        → Adds old all (begin_array ∷ tokens_of_all (map told (rows_between rows first n))) → Adds all new (end_array ∷ [])
        → Adds old new (tokens_of (array (items_of (map told (rows_between rows first end)))))
    rows_written first n end last is ends =
        bracketed (map told (rows_between rows first end)) (same (λ (k : ℕ). begin_array ∷ tokens_of_all (map told (rows_between rows first k))) last is) ends

  -- the rows of a page are its entries
  module _ (page len : ℕ) (rows : List A) (long : len ≡ length rows) where
    pub entries_are : (first end : ℕ) → first ≡ min (100 * page) len → end ≡ min (100 * page + 100) len → rows_between rows first end ≡ entries_of page rows
    entries_are first end begins ends =
        let many : end - first ≡ min 100 (length (drop first rows)) = omega (arith, length-drop first rows, long, begins, ends) in
        ap (λ n. take n (drop first rows)) many ∙ take_min 100 (drop first rows)
        ∙ ap (λ n. take 100 (drop n rows)) (begins ∙ ap (min (100 * page)) long) ∙ ap (take 100) (drop_min (100 * page) rows)

    -- whether more follow
    pub more_are : (more : Bool) → more ≡ nat_lt (100 * page + 100) len → more ≡ has_more page rows
    more_are more follow = follow ∙ ap (nat_lt (100 * page + 100)) long
