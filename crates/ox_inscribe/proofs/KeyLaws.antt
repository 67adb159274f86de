-- What becomes of the numbers at a row's keys as the row's own number comes and goes.
use Rattle.std.proofs.Common.{inl, inr, ◌≡◌, ◌∙◌, ◌<◌, ◌≤◌, ℕ, zero, suc, ◌+◌, ◌-◌, Bool, true, false, cond, List, [], ◌∷◌, ◌++◌, length, take, refl, sym, ap, arith, length-append, Option, Some, None, nat_lt, get_or, Ordering, Ok, Err}
use Rattle.std.specs.Prelude.{◌||◌, ◌&&◌, ◌==◌, ◌⊎◌, not, bytes_eq, MatchOption, OnErr, Result}
use Rattle.std.specs.List.{list_any, prefix_len}
use Rattle.std.specs.Option.{option_map_or}
use Rattle.std.specs.Ordering.{is_eq, nat_cmp, ordering_then}
use Rattle.std.specs.Cmp.{unsigned_tied}
use Rattle.std.specs.Cmp.Lexicographic.{slice_cmp}
use Rattle.std.specs.declared.cmp.Ordering.TheVariants.{Less, Equal, Greater}
use Rattle.std.proofs.lemmas.List.Folds.{list_any_more}
use Rattle.std.proofs.lemmas.Bool.{cases_lt, cond-false, cond-true, eq-eqb, le-ltb, lt-ltb, ne_eqb}
use Rattle.std.proofs.lemmas.Bool.Decides.{same_from_decides, Decides-like}
use Rattle.std.proofs.lemmas.List.Folds.{prefix_len-append}
use Rattle.std.proofs.lemmas.List.Sums.{prefix_len-le-length}
use Rattle.std.proofs.lemmas.Map.Text.{is_eq-slice_cmp}
use Rattle.ox_envelope.specs.declared.id.InsId.{InsId}
use Rattle.ox_inscribe.specs.Inscriptions.{find, is_same_id, numbers_where}
use Rattle.ox_inscribe.specs.Shelved.{AreKeys, AreKeysUpTo, ends_with, first_if, id_cmp, is_first, is_key, none_if, with_last, with_last_if, without_last, without_last_if, IsEither}
use Rattle.ox_inscribe.specs.declared.keys.Keys.{Keys}
use Rattle.ox_inscribe.specs.declared.row.InsRow.{InsRow}
use Rattle.ox_inscribe.proofs.ParentLaws.{ids_decide}
use Rattle.ox_inscribe.proofs.ShelfLaws.{last_goes, last_comes_once, no_last, numbers_append}

pub on_err : {A E P : Type 0} (r : Result A E) → P → OnErr r P
on_err (Ok x) holds = tt
on_err (Err e) holds = holds

pub on_err_then : {A E P Q : Type 0} (r : Result A E) → OnErr r P → (P → Q) → OnErr r Q
on_err_then (Ok x) is then = tt
on_err_then (Err e) is then = then is

-- ---- keys one after another

pub key_more : {K : Type 0} (R : K → K → Ordering) (keys : List K) (i : ℕ) (key q : K) → i < length keys → get_or keys i key ≡ key → is_key R (take (i + 1) keys) q ≡ (is_key R (take i keys) q || is_eq (R key q))
key_more R keys i key q within is =
    list_any_more (λ one. is_eq (R one q)) keys i key within
    ∙ ap (λ one. is_key R (take i keys) q || is_eq (R one q)) is

any_front : {K : Type 0} (test : K → Bool) (i : ℕ) (keys : List K) → list_any test (take i keys) ≡ true → list_any test keys ≡ true
any_front test zero keys is = absurd (cc is)
any_front test (suc i) [] is = is
any_front test (suc i) (key ∷ keys) is = by_test (test key) is (any_front test i keys) where
  by_test : (passed : Bool) → (passed || list_any test (take i keys)) ≡ true → (list_any test (take i keys) ≡ true → list_any test keys ≡ true) → (passed || list_any test keys) ≡ true
  by_test true is later = refl
  by_test false is later = later is

with_twice : (number : ℕ) (numbers : List ℕ) → with_last number (with_last number numbers) ≡ with_last number numbers
with_twice number numbers = by_test (ends_with number numbers) refl where
  by_test : (b : Bool) → ends_with number numbers ≡ b → with_last number (cond b numbers (numbers ++ number ∷ [])) ≡ cond b numbers (numbers ++ number ∷ [])
  by_test true is = ap (λ (b : Bool). cond b numbers (numbers ++ number ∷ [])) is
  by_test false is = last_comes_once numbers number

pub added_more : (seen here : Bool) (number : ℕ) (old now new : List ℕ) → now ≡ with_last_if seen number old → new ≡ with_last_if here number now → new ≡ with_last_if (seen || here) number old
added_more true true number old now new was is = is ∙ ap (with_last number) was ∙ with_twice number old
added_more true false number old now new was is = is ∙ was
added_more false true number old now new was is = is ∙ ap (with_last number) was
added_more false false number old now new was is = is ∙ was

pub added_some : {K : Type 0} (R : K → K → Ordering) (keys : List K) (i : ℕ) (q : K) (number : ℕ) (old new : List ℕ) → new ≡ with_last_if (is_key R (take i keys) q) number old → IsEither old (with_last_if (is_key R keys q) number old) new
added_some R keys i q number old new is = by_test (is_key R (take i keys) q) (any_front (λ one. is_eq (R one q)) i keys) is where
  by_test : (seen : Bool) → (seen ≡ true → is_key R keys q ≡ true) → new ≡ with_last_if seen number old → IsEither old (with_last_if (is_key R keys q) number old) new
  by_test true all is = inr (is ∙ sym (ap (λ (b : Bool). with_last_if b number old) (all refl)))
  by_test false all is = inl is

pub dropped_more : (seen here : Bool) (number : ℕ) (old now new : List ℕ) → ends_with number (without_last number old) ≡ false → now ≡ without_last_if seen number old → new ≡ without_last_if here number now → new ≡ without_last_if (seen || here) number old
dropped_more true true number old now new once was is =
    is ∙ ap (without_last number) was
    ∙ ap (λ (b : Bool). cond b (take (length (without_last number old) - 1) (without_last number old)) (without_last number old)) once
dropped_more true false number old now new once was is = is ∙ was
dropped_more false true number old now new once was is = is ∙ ap (without_last number) was
dropped_more false false number old now new once was is = is ∙ was

-- ---- which keys are a row's

then_equal : (one other : Ordering) → is_eq (ordering_then one other) ≡ (is_eq one && is_eq other)
then_equal Less other = refl
then_equal Equal other = refl
then_equal Greater other = refl

pub ids_alike : (a b : InsId) → is_eq (id_cmp a b) ≡ is_same_id a b
ids_alike a b =
    then_equal (slice_cmp nat_cmp a.txid b.txid) (nat_cmp a.index b.index)
    ∙ ap (λ (x : Bool). x && is_eq (nat_cmp a.index b.index)) (is_eq-slice_cmp a.txid b.txid)
    ∙ ap (λ (x : Bool). bytes_eq a.txid b.txid && x) (unsigned_tied a.index b.index)

turned : (a b : InsId) → is_same_id a b ≡ is_same_id b a
turned a b = same_from_decides (is_same_id a b) (is_same_id b a) (ids_decide a b) (Decides-like (is_same_id b a) (λ e. sym e) (λ e. sym e) (ids_decide b a))

pub key_of_parents : (ids : List InsId) (id : InsId) → is_key id_cmp ids id ≡ list_any (is_same_id id) ids
key_of_parents [] id = refl
key_of_parents (one ∷ ids) id =
    ap (λ (x : Bool). x || is_key id_cmp ids id) (ids_alike one id ∙ turned one id)
    ∙ ap (λ (x : Bool). is_same_id id one || x) (key_of_parents ids id)

or_nothing : (b : Bool) → (b || false) ≡ b
or_nothing true = refl
or_nothing false = refl

pub key_of_sat : (sat : Option ℕ) (keys : List ℕ) → MatchOption sat (keys ≡ []) (λ s. keys ≡ s ∷ []) → (q : ℕ) → is_key nat_cmp keys q ≡ option_map_or (λ s. s == q) sat false
key_of_sat None keys is q = ap (λ (some : List ℕ). is_key nat_cmp some q) is
key_of_sat (Some s) keys is q = ap (λ (some : List ℕ). is_key nat_cmp some q) is ∙ or_nothing (is_eq (nat_cmp s q)) ∙ unsigned_tied s q

-- ---- the numbers at a key of a row more

with_row : (passes : InsRow → Bool) (rows : List InsRow) (row : InsRow) (number : ℕ) → length rows ≡ number → numbers_where passes 0 (rows ++ row ∷ []) ≡ with_last_if (passes row) number (numbers_where passes 0 rows)
with_row passes rows row number is =
    let numbers = numbers_where passes 0 rows in
    let next : 0 + length rows ≡ number = omega arith in
    numbers_append passes 0 rows row
    ∙ ap (λ (n : ℕ). cond (passes row) (numbers ++ n ∷ []) numbers) next
    ∙ ap (λ (more : List ℕ). cond (passes row) more numbers) (sym (cond-false (ends_with number numbers) numbers (numbers ++ number ∷ []) (no_last passes rows number (sym is))))

pub added : (passes : InsRow → Bool) (rows : List InsRow) (row : InsRow) (number : ℕ) (is_it : Bool) (old new : List ℕ) → length rows ≡ number → is_it ≡ passes row → old ≡ numbers_where passes 0 rows → new ≡ with_last_if is_it number old → new ≡ numbers_where passes 0 (rows ++ row ∷ [])
added passes rows row number is_it old new is same was now =
    now
    ∙ ap (λ (b : Bool). with_last_if b number old) same
    ∙ ap (λ (numbers : List ℕ). with_last_if (passes row) number numbers) was
    ∙ sym (with_row passes rows row number is)

pub added_or_not : (passes : InsRow → Bool) (rows : List InsRow) (row : InsRow) (number : ℕ) (is_it : Bool) (old new : List ℕ) → length rows ≡ number → is_it ≡ passes row → old ≡ numbers_where passes 0 rows → IsEither old (with_last_if is_it number old) new → IsEither (numbers_where passes 0 rows) (numbers_where passes 0 (rows ++ row ∷ [])) new
added_or_not passes rows row number is_it old new is same was (inl stays) = inl (stays ∙ was)
added_or_not passes rows row number is_it old new is same was (inr now) = inr (added passes rows row number is_it old new is same was now)

same_without : (number : ℕ) (numbers : List ℕ) → ends_with number numbers ≡ false → without_last number numbers ≡ numbers
same_without number numbers absent = cond-false (ends_with number numbers) _ _ absent

not_there : (is_it : Bool) (number : ℕ) (numbers : List ℕ) → ends_with number numbers ≡ false → without_last_if is_it number numbers ≡ numbers
not_there true number numbers absent = same_without number numbers absent
not_there false number numbers absent = refl

there : (is_it : Bool) (number : ℕ) (numbers old new : List ℕ) → ends_with number numbers ≡ false → old ≡ with_last_if is_it number numbers → (ends_with number (without_last number old) ≡ false → new ≡ without_last_if is_it number old) → new ≡ numbers
there true number numbers old new absent was now =
    let behind : old ≡ numbers ++ number ∷ [] = was ∙ cond-false (ends_with number numbers) _ _ absent in
    let gone : without_last number old ≡ numbers = ap (without_last number) behind ∙ last_goes numbers number in
    now (ap (ends_with number) gone ∙ absent) ∙ gone
there false number numbers old new absent was now =
    now (ap (ends_with number) (ap (without_last number) was ∙ same_without number numbers absent) ∙ absent) ∙ was

pub dropped : (passes : InsRow → Bool) (rows : List InsRow) (row : InsRow) (number : ℕ) (is_it : Bool) (old new : List ℕ) → length rows ≡ number → is_it ≡ passes row → IsEither (numbers_where passes 0 rows) (numbers_where passes 0 (rows ++ row ∷ [])) old → (ends_with number (without_last number old) ≡ false → new ≡ without_last_if is_it number old) → new ≡ numbers_where passes 0 rows
dropped passes rows row number is_it old new is same (inl was) now =
    let numbers = numbers_where passes 0 rows in
    let absent = no_last passes rows number (sym is) in
    now (ap (ends_with number) (ap (without_last number) was ∙ same_without number numbers absent) ∙ absent)
    ∙ ap (without_last_if is_it number) was
    ∙ not_there is_it number numbers absent
dropped passes rows row number is_it old new is same (inr was) now =
    there is_it number (numbers_where passes 0 rows) old new (no_last passes rows number (sym is))
    (was ∙ with_row passes rows row number is ∙ ap (λ (b : Bool). with_last_if b number (numbers_where passes 0 rows)) (sym same))
    now

-- ---- the first number of an id

first_put_behind : (is_it : Bool) (place all place_more all_more : ℕ) → place ≤ all → all_more ≡ all + 1 → place_more ≡ cond (place == all) (all + cond (not is_it) (1 + 0) 0) place → cond (nat_lt place_more all_more) (Some place_more) None ≡ first_if is_it all (cond (nat_lt place all) (Some place) None)
first_put_behind is_it place all place_more all_more low end is = by_found is_it (cases_lt place all) is where
  some : (n : ℕ) → place_more ≡ n → n < all_more → cond (nat_lt place_more all_more) (Some place_more) None ≡ Some n
  some n same within = cond-true _ _ _ (lt-ltb place_more all_more (omega arith)) ∙ ap (λ (k : ℕ). Some k) same

  by_found : (b : Bool) → (place < all) ⊎ (all ≤ place) → place_more ≡ cond (place == all) (all + cond (not b) (1 + 0) 0) place → cond (nat_lt place_more all_more) (Some place_more) None ≡ first_if b all (cond (nat_lt place all) (Some place) None)
  by_found true (inl found) is =
      some place (is ∙ cond-false _ _ _ (ne_eqb place all (λ (e : place ≡ all). omega arith))) (omega arith)
      ∙ sym (ap (first_if true all) (cond-true _ _ _ (lt-ltb place all found)))
  by_found false (inl found) is =
      some place (is ∙ cond-false _ _ _ (ne_eqb place all (λ (e : place ≡ all). omega arith))) (omega arith)
      ∙ sym (cond-true _ _ _ (lt-ltb place all found))
  by_found true (inr none) is =
      (let behind : all + 0 ≡ all = omega arith in some all (is ∙ cond-true _ _ _ (eq-eqb place all (omega arith)) ∙ behind) (omega arith))
      ∙ sym (ap (first_if true all) (cond-false _ _ _ (le-ltb place all none)))
  by_found false (inr none) is =
      (let past : place_more ≡ all + (1 + 0) = is ∙ cond-true _ _ _ (eq-eqb place all (omega arith)) in cond-false _ _ _ (le-ltb place_more all_more (omega arith)))
      ∙ sym (cond-false _ _ _ (le-ltb place all none))

find_append : (rows : List InsRow) (row : InsRow) (id : InsId) → find (rows ++ row ∷ []) id ≡ first_if (is_same_id row.id id) (length rows) (find rows id)
find_append rows row id =
    let other = λ (one : InsRow). not (is_same_id one.id id) in
    first_put_behind (is_same_id row.id id) (prefix_len other rows) (length rows) (prefix_len other (rows ++ row ∷ [])) (length (rows ++ row ∷ []))
    (prefix_len-le-length other rows) (length-append rows (row ∷ [])) (prefix_len-append other rows (row ∷ []))

pub first_added : (rows : List InsRow) (row : InsRow) (id : InsId) (number : ℕ) (old new : Option ℕ) → length rows ≡ number → old ≡ find rows id → new ≡ first_if (is_eq (id_cmp row.id id)) number old → new ≡ find (rows ++ row ∷ []) id
first_added rows row id number old new is was now =
    now
    ∙ ap (λ (b : Bool). first_if b number old) (ids_alike row.id id)
    ∙ ap (λ (n : ℕ). first_if (is_same_id row.id id) n old) (sym is)
    ∙ ap (λ (first : Option ℕ). first_if (is_same_id row.id id) (length rows) first) was
    ∙ sym (find_append rows row id)

not_first : (place all number : ℕ) → all ≡ number → is_first number (cond (nat_lt place all) (Some place) None) ≡ false
not_first place all number is = by_order (cases_lt place all) where
  by_order : (place < all) ⊎ (all ≤ place) → is_first number (cond (nat_lt place all) (Some place) None) ≡ false
  by_order (inl found) = ap (is_first number) (cond-true _ _ _ (lt-ltb place all found)) ∙ ne_eqb place number (λ (e : place ≡ number). omega arith)
  by_order (inr none) = ap (is_first number) (cond-false _ _ _ (le-ltb place all none))

none_there : (is_it : Bool) (number : ℕ) (first : Option ℕ) → is_first number first ≡ false → none_if is_it number first ≡ first
none_there true number first absent = cond-false _ _ _ absent
none_there false number first absent = refl

goes_again : (is_it : Bool) (number : ℕ) (first : Option ℕ) → is_first number first ≡ false → none_if is_it number (first_if is_it number first) ≡ first
goes_again true number None absent = cond-true _ _ _ (eq-eqb number number refl)
goes_again true number (Some n) absent = cond-false _ _ _ absent
goes_again false number first absent = refl

pub first_dropped : (rows : List InsRow) (row : InsRow) (id : InsId) (number : ℕ) (old new : Option ℕ) → length rows ≡ number → IsEither (find rows id) (find (rows ++ row ∷ []) id) old → new ≡ none_if (is_eq (id_cmp row.id id)) number old → new ≡ find rows id
first_dropped rows row id number old new is either now =
    now ∙ ap (λ (b : Bool). none_if b number old) (ids_alike row.id id) ∙ by_either either where
      absent : is_first number (find rows id) ≡ false
      absent = not_first (prefix_len (λ (one : InsRow). not (is_same_id one.id id)) rows) (length rows) number is

      by_either : IsEither (find rows id) (find (rows ++ row ∷ []) id) old → none_if (is_same_id row.id id) number old ≡ find rows id
      by_either (inl was) = ap (none_if (is_same_id row.id id) number) was ∙ none_there (is_same_id row.id id) number (find rows id) absent
      by_either (inr was) =
          ap (none_if (is_same_id row.id id) number) (was ∙ find_append rows row id ∙ ap (λ (n : ℕ). first_if (is_same_id row.id id) n (find rows id)) is)
          ∙ goes_again (is_same_id row.id id) number (find rows id) absent

pub all_there : (rows : List InsRow) (row : InsRow) (keys : Keys) → AreKeys (rows ++ row ∷ []) keys → AreKeysUpTo rows row keys
all_there rows row keys are = record {
  firsts = λ id. inr (are.firsts id);
  sats = λ sat. inr (are.sats sat);
  parents = λ id. inr (are.parents id);
}
