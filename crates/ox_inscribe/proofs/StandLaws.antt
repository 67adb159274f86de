-- Which rows stand on the satoshis of a transaction.
use Rattle.std.proofs.Common.{◌≡◌, ◌∙◌, ℕ, suc, ◌+◌, ◌<◌, ◌≤◌, Bool, true, false, cond, List, [], ◌∷◌, ◌++◌, length, take, get_or, refl, sym, ap, arith, Option, Some, None}
use Rattle.std.specs.Prelude.{◌==◌, ◌||◌, ◌&&◌, not, filter, slice_get, option_and_then}
use Rattle.std.specs.List.{list_any}
use Rattle.std.specs.Option.{option_map_or}
use Rattle.std.proofs.lemmas.Bool.Decides.{nat_tests}
use Rattle.std.specs.BTreeSet.{BTreeSet, contains}
use Rattle.std.specs.Ordering.{is_eq}
use Rattle.std.proofs.lemmas.Bool.{cond-true, cond-false, true≢false}
use Rattle.std.proofs.lemmas.List.{take_more, get_or-take, length-take}
use Rattle.std.proofs.lemmas.List.Folds.{list_any_more}
use Rattle.std.proofs.lemmas.Option.{slice_get-get_or}
use Rattle.ox_envelope.specs.declared.id.InsId.{InsId}
use Rattle.ox_inscribe.specs.Inscriptions.{find, is_on, is_same_id, numbers_where}
use Rattle.ox_inscribe.specs.Reveal.{each_once, stands_among}
use Rattle.ox_inscribe.specs.declared.row.InsRow.{InsRow}
use Rattle.ox_inscribe.specs.Shelved.{id_cmp}
use Rattle.ox_inscribe.proofs.KeyLaws.{ids_alike}
use Rattle.ox_inscribe.proofs.ShelfLaws.{find_none, find_shown, find_hidden}

-- ---- one id

abbrev row_stands : List ℕ → Option InsRow → Bool
row_stands joined row = option_map_or (λ r. list_any (λ sat. is_on sat r) joined) row false

pub stands_none : (joined : List ℕ) (rows : List InsRow) (count : ℕ) (id : InsId) → find rows id ≡ None → false ≡ stands_among joined (take count rows) id
stands_none joined rows count id none = sym (ap (λ (found : Option ℕ). row_stands joined (option_and_then (slice_get (take count rows)) found)) (find_none rows count id none))

pub stands_hidden : (joined : List ℕ) (rows : List InsRow) (count number : ℕ) (id : InsId) → find rows id ≡ Some number → count ≤ number → false ≡ stands_among joined (take count rows) id
stands_hidden joined rows count number id some hidden = sym (ap (λ (found : Option ℕ). row_stands joined (option_and_then (slice_get (take count rows)) found)) (find_hidden rows count number id some hidden))

slice_shown : (rows : List InsRow) (count number : ℕ) (d : InsRow) → number < count → count ≤ length rows → slice_get (take count rows) number ≡ Some (get_or rows number d)
slice_shown rows count number d shown within =
    slice_get-get_or (take count rows) number d (omega (arith, length-take count rows))
    ∙ ap (λ (r : InsRow). Some r) (get_or-take count rows number d shown)

stands_row : (joined : List ℕ) (rows : List InsRow) (count number : ℕ) (id : InsId) (d : InsRow) → find rows id ≡ Some number → number < count → count ≤ length rows → stands_among joined (take count rows) id ≡ list_any (λ sat. is_on sat (get_or rows number d)) joined
stands_row joined rows count number id d some shown within =
    ap (λ (found : Option ℕ). row_stands joined (option_and_then (slice_get (take count rows)) found)) (find_shown rows count number id some shown)
    ∙ ap (row_stands joined) (slice_shown rows count number d shown within)

none_on : (joined : List ℕ) → list_any (λ s. false) joined ≡ false
none_on [] = refl
none_on (s ∷ joined) = none_on joined

same_number : (a b : ℕ) → (a == b) ≡ (b == a)
same_number a b = grind (arith, nat_tests)

on_alike : (sat : ℕ) (joined : List ℕ) → list_any (λ s. s == sat) joined ≡ list_any (λ s. sat == s) joined
on_alike sat [] = refl
on_alike sat (s ∷ joined) = ap (λ (b : Bool). b || list_any (λ s. s == sat) joined) (same_number s sat) ∙ ap (λ (b : Bool). (sat == s) || b) (on_alike sat joined)

pub stands_unbound : (joined : List ℕ) (rows : List InsRow) (count number : ℕ) (id : InsId) (d : InsRow) → find rows id ≡ Some number → number < count → count ≤ length rows → (get_or rows number d).sat ≡ None → false ≡ stands_among joined (take count rows) id
stands_unbound joined rows count number id d some shown within sat =
    sym (stands_row joined rows count number id d some shown within ∙ ap (λ (at : Option ℕ). list_any (λ s. option_map_or (λ n. n == s) at false) joined) sat ∙ none_on joined)

pub stands_on : (joined : List ℕ) (rows : List InsRow) (count number sat : ℕ) (id : InsId) (d : InsRow) → find rows id ≡ Some number → number < count → count ≤ length rows → (get_or rows number d).sat ≡ Some sat → list_any (λ s. s == sat) joined ≡ stands_among joined (take count rows) id
stands_on joined rows count number sat id d some shown within on =
    on_alike sat joined
    ∙ sym (stands_row joined rows count number id d some shown within ∙ ap (λ (at : Option ℕ). list_any (λ s. option_map_or (λ n. n == s) at false) joined) on)

-- ---- a satoshi's rows

some_number : (n : ℕ) → not (suc n == 0) ≡ true
some_number n = grind (arith, nat_tests)

pub any_where : (passes : InsRow → Bool) (number : ℕ) (rows : List InsRow) → not (length (numbers_where passes number rows) == 0) ≡ list_any passes rows
unfolding numbers_where
any_where passes number [] = refl
any_where passes number (row ∷ rows) = by_test (passes row) (any_where passes (number + 1) rows) where
  by_test : (b : Bool) → not (length (numbers_where passes (number + 1) rows) == 0) ≡ list_any passes rows → not (length (cond b (number ∷ numbers_where passes (number + 1) rows) (numbers_where passes (number + 1) rows)) == 0) ≡ (b || list_any passes rows)
  by_test true later = some_number (length (numbers_where passes (number + 1) rows))
  by_test false later = later

-- ---- each id once

turned_or : (a b : Bool) → cond a true b ≡ (b || a)
turned_or true true = refl
turned_or true false = refl
turned_or false true = refl
turned_or false false = refl

dropped : (id : InsId) (test : InsId → Bool) (ids : List InsId) → test id ≡ false → filter test (ids ++ id ∷ []) ≡ filter test ids
dropped id test [] is = cond-false _ _ _ is
dropped id test (one ∷ ids) is = by_test (test one) (dropped id test ids is) where
  by_test : (b : Bool) → filter test (ids ++ id ∷ []) ≡ filter test ids → cond b (one ∷ filter test (ids ++ id ∷ [])) (filter test (ids ++ id ∷ [])) ≡ cond b (one ∷ filter test ids) (filter test ids)
  by_test true later = ap (λ (rest : List InsId). one ∷ rest) later
  by_test false later = later

kept : (id : InsId) (test : InsId → Bool) (ids : List InsId) → test id ≡ true → filter test (ids ++ id ∷ []) ≡ filter test ids ++ id ∷ []
kept id test [] is = cond-true _ _ _ is
kept id test (one ∷ ids) is = by_test (test one) (kept id test ids is) where
  by_test : (b : Bool) → filter test (ids ++ id ∷ []) ≡ filter test ids ++ id ∷ [] → cond b (one ∷ filter test (ids ++ id ∷ [])) (filter test (ids ++ id ∷ [])) ≡ cond b (one ∷ filter test ids) (filter test ids) ++ id ∷ []
  by_test true later = ap (λ (rest : List InsId). one ∷ rest) later
  by_test false later = later

abbrev is_there : InsId → List InsId → Bool
is_there id ids = list_any (λ one. is_same_id one id) ids

abbrev others : InsId → List InsId → List InsId
others one ids = filter (λ other. not (is_same_id one other)) ids

-- an id that isn't named before comes last
first : (id : InsId) (ids : List InsId) → is_there id ids ≡ false → each_once (ids ++ id ∷ []) ≡ each_once ids ++ id ∷ []
unfolding each_once
first id [] none = refl
first id (one ∷ ids) none = by_same (is_same_id one id) refl none (first id ids) where
  by_same : (b : Bool) → is_same_id one id ≡ b → (b || is_there id ids) ≡ false → (is_there id ids ≡ false → each_once (ids ++ id ∷ []) ≡ each_once ids ++ id ∷ []) → one ∷ others one (each_once (ids ++ id ∷ [])) ≡ one ∷ (others one (each_once ids) ++ id ∷ [])
  by_same true same none later = absurd (true≢false none)
  by_same false same none later =
      ap (λ (rest : List InsId). one ∷ rest) (ap (others one) (later none) ∙ kept id (λ other. not (is_same_id one other)) (each_once ids) (ap not same))

-- one that is changes nothing
again : (id : InsId) (ids : List InsId) → is_there id ids ≡ true → each_once (ids ++ id ∷ []) ≡ each_once ids
unfolding each_once
again id [] there = absurd (true≢false (sym there))
again id (one ∷ ids) there = by_same (is_same_id one id) refl there (again id ids) where
  by_rest : (b : Bool) → is_there id ids ≡ b → is_same_id one id ≡ true → (is_there id ids ≡ true → each_once (ids ++ id ∷ []) ≡ each_once ids) → others one (each_once (ids ++ id ∷ [])) ≡ others one (each_once ids)
  by_rest true is same later = ap (others one) (later is)
  by_rest false is same later = ap (others one) (first id ids is) ∙ dropped id (λ other. not (is_same_id one other)) (each_once ids) (ap not same)

  by_same : (b : Bool) → is_same_id one id ≡ b → (b || is_there id ids) ≡ true → (is_there id ids ≡ true → each_once (ids ++ id ∷ []) ≡ each_once ids) → one ∷ others one (each_once (ids ++ id ∷ [])) ≡ one ∷ others one (each_once ids)
  by_same true same is later = ap (λ (rest : List InsId). one ∷ rest) (by_rest (is_there id ids) refl same later)
  by_same false same is later = ap (λ (rest : List InsId). one ∷ others one rest) (later is)

pub once-none : each_once [] ≡ []
unfolding each_once
once-none = refl

-- one id more among those that are kept
pub kept_more : (test : InsId → Bool) (named parents after : List InsId) (i : ℕ) (d : InsId) (was : Bool) → i < length named → was ≡ is_there (get_or named i d) (take i named) → true ≡ (not was && test (get_or named i d))
    → after ≡ parents ++ get_or named i d ∷ [] → parents ≡ filter test (each_once (take i named)) → after ≡ filter test (each_once (take (i + 1) named))
kept_more test named parents after i d true within there is pushed so_far = absurd (true≢false is)
kept_more test named parents after i d false within there is pushed so_far =
    pushed ∙ ap (λ (front : List InsId). front ++ get_or named i d ∷ []) so_far
    ∙ sym (ap (λ (ids : List InsId). filter test (each_once ids)) (take_more named i d within) ∙ ap (filter test) (first (get_or named i d) (take i named) (sym there)) ∙ kept (get_or named i d) test (each_once (take i named)) (sym is))

pub kept_same : (test : InsId → Bool) (named parents : List InsId) (i : ℕ) (d : InsId) (was : Bool) → i < length named → was ≡ is_there (get_or named i d) (take i named) → false ≡ (not was && test (get_or named i d))
    → parents ≡ filter test (each_once (take i named)) → parents ≡ filter test (each_once (take (i + 1) named))
kept_same test named parents i d was within there is so_far = so_far ∙ sym (ap (λ (ids : List InsId). filter test (each_once ids)) (take_more named i d within) ∙ by_was was there is) where
  by_was : (b : Bool) → b ≡ is_there (get_or named i d) (take i named) → false ≡ (not b && test (get_or named i d)) → filter test (each_once (take i named ++ get_or named i d ∷ [])) ≡ filter test (each_once (take i named))
  by_was true was fails = ap (filter test) (again (get_or named i d) (take i named) (sym was))
  by_was false was fails = ap (filter test) (first (get_or named i d) (take i named) (sym was)) ∙ dropped (get_or named i d) test (each_once (take i named)) (sym fails)

-- one id more that was met
pub met_more : (old new : BTreeSet InsId) (named : List InsId) (i : ℕ) (d : InsId) → i < length named → ((q : InsId) → contains id_cmp new q ≡ cond (is_eq (id_cmp (get_or named i d) q)) true (contains id_cmp old q))
    → ((q : InsId) → contains id_cmp old q ≡ is_there q (take i named)) → (q : InsId) → contains id_cmp new q ≡ is_there q (take (i + 1) named)
met_more old new named i d within updated so_far q =
    updated q ∙ ap (λ (b : Bool). cond b true (contains id_cmp old q)) (ids_alike (get_or named i d) q) ∙ ap (λ (b : Bool). cond (is_same_id (get_or named i d) q) true b) (so_far q)
    ∙ turned_or (is_same_id (get_or named i d) q) (is_there q (take i named))
    ∙ sym (list_any_more (λ one. is_same_id one q) named i d within)
