-- The rows in which a table differs from itself before some changes, and rows that are placed back.
use Rattle.std.proofs.Common.{◌≡◌, ◌≢◌, ◌∙◌, ◌≤◌, ◌<◌, ◌+◌, ◌-◌, ℕ, suc, Bool, true, false, cond, T, List, [], ◌∷◌, ◌++◌, length, drop, get_or, refl, sym, ap, subst, arith, not, Option, Some, None, Ordering, inl, inr}
use Rattle.std.specs.Prelude.{◌⊎◌, ◌&&◌, ◌==◌, All, IsTrue, is_some, if◌then◌else◌}
use Rattle.std.specs.Prelude.{Result, Ok, Err, IfOk}
use Rattle.std.specs.Bool.{Decides}
use Rattle.std.specs.List.{AllByRecursion, dedup, dedup_from, position_from}
use Rattle.std.specs.List.Sorted.{IsSorted, IsStrictlySortedBy}
use Rattle.std.specs.Map.{keys_of, lookup}
use Rattle.std.specs.BTreeMap.{is_at}
use Rattle.std.specs.Ordering.{is_eq, is_lt}
use Rattle.std.specs.Cmp.{eq_by_cmp_equiv}
use Rattle.std.specs.FinMap.{find, get, get-remove, is_sorted, remove}
use Rattle.std.specs.FinMap.Entries.{below_all}
use Rattle.std.specs.declared.cmp.Ordering.TheVariants.{Less, Equal, Greater}
use Rattle.std.proofs.lemmas.Bool.Decides.{Decides-and, Decides-eqb, Decides-like}
use Rattle.std.proofs.lemmas.List.{append_assoc, append-nil, drop_all, drop_more}
use Rattle.std.proofs.lemmas.List.Elements.{All-nil, All-cons, All-drop, All-head, All-tail}
use Rattle.std.proofs.lemmas.Cmp.{on_total}
use Rattle.std.proofs.lemmas.List.Kept.{IsStrictlySortedBy-dedup}
use Rattle.std.proofs.lemmas.Map.Entries.{lookup_from_place}
use Rattle.std.proofs.lemmas.Map.Keys.{IsDistinct-from_sorted}
use Rattle.std.proofs.lemmas.Option.{slice_get-get_or}
use Rattle.ox_block.specs.declared.block.OutPoint.{OutPoint}
use Rattle.ox_range.specs.declared.runs.Run.{Run}
use Rattle.ox_rules.specs.declared.rows.OutRow.{OutRow}
use Rattle.ox_rules.specs.Differences.{AreGone, with_rows, without_rows}
use Rattle.ox_rules.specs.Outputs.{MayStand, Outputs, outpoint_cmp, sats_held, times}
use Rattle.ox_rules.proofs.Conservation.{times_held}
use Rattle.ox_rules.proofs.DifferenceLemmas.{differs, get-with_rows, get-without_rows, has_gone, or_else, same_row, same_row-Decides}
use Rattle.ox_rules.proofs.MapSums.{total_remove}
use Rattle.ox_rules.proofs.Orders.{outpoints_total, outpoints_exact}
use Rattle.ox_outputs.specs.Differing.{FitIn, gone_at, numbered_from, row_at, row_unless, rows_for}
use Rattle.ox_outputs.specs.Slots.{SlotList, outpoint_at, undone, AreSpots}
use Rattle.ox_outputs.specs.Table.{EndsIn}
use Rattle.ox_outputs.specs.declared.slot_of.SlotOf.{SlotOf}
use Rattle.ox_outputs.proofs.PlaceLemmas.{is_same, same_or_not}
use Rattle.ox_outputs.proofs.SlotLemmas.{equal, get-put_slot, spot_known}

some_is : {X : Type 0} (x y : X) → Some x ≡ Some y → x ≡ y
some_is x y is = cc

same_itself : (a : OutPoint) → is_same a a ≡ true
same_itself a = (eq_by_cmp_equiv outpoints_total).refl a

-- ---- runs

abbrev pub same_run : Run → Run → Bool
same_run a b = (a.first == b.first) && (a.count == b.count)

pub same_run-Decides : (a b : Run) → Decides (same_run a b) (a ≡ b)
same_run-Decides a b =
    Decides-like (same_run a b)
    (λ same i. record { first = same.0 i; count = same.1 i })
    (λ same. (ap (λ (run : Run). run.first) same, ap (λ (run : Run). run.count) same))
    (Decides-and (a.first == b.first) _ (Decides-eqb a.first b.first) (Decides-eqb a.count b.count))

-- ---- the oldest change at an outpoint

-- whether a spot is that of this outpoint
abbrev pub is_of : OutPoint → SlotOf → Bool
is_of at spot = is_same at spot.at

-- the first that is numbered at an outpoint
pub found_numbered : (at : OutPoint) (n : ℕ) (changed : List SlotOf) → lookup (is_at (outpoint_cmp at)) (numbered_from n changed) ≡ position_from (is_of at) n changed
found_numbered at n [] = refl
found_numbered at n (spot ∷ changed) = ap (cond (is_same at spot.at) (Some n)) (found_numbered at (n + 1) changed)

-- no order between outpoints that are the same
pub ties_same : (at k : OutPoint) → is_same at k ≡ true → (not (is_lt (outpoint_cmp at k)) && not (is_lt (outpoint_cmp k at))) ≡ true
ties_same at k same =
    let here : outpoint_cmp at k ≡ Equal = equal _ same in
    let back : outpoint_cmp k at ≡ Equal = equal _ ((eq_by_cmp_equiv outpoints_total).symm k at ∙ same) in
    λ i. not (is_lt (here i)) && not (is_lt (back i))

-- whether two have one outpoint
abbrev pub have_one : OutPoint × ℕ → OutPoint × ℕ → Bool
have_one a b = is_same a.0 b.0

found_from : (at : OutPoint) (k : OutPoint × ℕ) (xs : List (OutPoint × ℕ)) → lookup (is_at (outpoint_cmp at)) (dedup_from have_one k xs) ≡ lookup (is_at (outpoint_cmp at)) (k ∷ xs)
found_from at k [] = refl
found_from at k (x ∷ xs) = by_same (found_from at k xs) (found_from at x xs) (same_or_not x.0 k.0) where
  over : (b : Bool) (s t rest : Option ℕ) → cond b s rest ≡ cond b s (cond b t rest)
  over true s t rest = refl
  over false s t rest = refl

  by_same : lookup (is_at (outpoint_cmp at)) (dedup_from have_one k xs) ≡ lookup (is_at (outpoint_cmp at)) (k ∷ xs)
      → lookup (is_at (outpoint_cmp at)) (dedup_from have_one x xs) ≡ lookup (is_at (outpoint_cmp at)) (x ∷ xs)
      → (x.0 ≡ k.0) ⊎ (is_same x.0 k.0 ≡ false) → lookup (is_at (outpoint_cmp at)) (dedup_from have_one k (x ∷ xs)) ≡ lookup (is_at (outpoint_cmp at)) (k ∷ x ∷ xs)
  by_same first second (inl same) =
      let here : is_same x.0 k.0 ≡ true = ap (is_same x.0) (sym same) ∙ same_itself x.0 in
      ap (λ (b : Bool). lookup (is_at (outpoint_cmp at)) (cond b (dedup_from have_one k xs) (k ∷ dedup_from have_one x xs))) here
      ∙ first
      ∙ over (is_same at k.0) (Some k.1) (Some x.1) (lookup (is_at (outpoint_cmp at)) xs)
      ∙ ap (λ (q : OutPoint). cond (is_same at k.0) (Some k.1) (cond (is_same at q) (Some x.1) (lookup (is_at (outpoint_cmp at)) xs))) (sym same)
  by_same first second (inr other) =
      ap (λ (b : Bool). lookup (is_at (outpoint_cmp at)) (cond b (dedup_from have_one k xs) (k ∷ dedup_from have_one x xs))) other
      ∙ ap (cond (is_same at k.0) (Some k.1)) second

-- the first at an outpoint stays where those behind it go
pub found_first : (at : OutPoint) (xs : List (OutPoint × ℕ)) → lookup (is_at (outpoint_cmp at)) (dedup have_one xs) ≡ lookup (is_at (outpoint_cmp at)) xs
found_first at [] = refl
found_first at (x ∷ xs) = found_from at x xs

keys_below : (k : OutPoint) (xs : List (OutPoint × ℕ)) → AllByRecursion (λ x. outpoint_cmp k x.0 ≡ Less) xs → AllByRecursion (λ x. outpoint_cmp k x ≡ Less) (keys_of xs)
keys_below k [] all = tt
keys_below k (x ∷ xs) all = (all.0, keys_below k xs all.1)

keys_sorted : (xs : List (OutPoint × ℕ)) → IsStrictlySortedBy (λ a b. outpoint_cmp a.0 b.0) xs → IsStrictlySortedBy outpoint_cmp (keys_of xs)
unfolding IsStrictlySortedBy
keys_sorted [] sorted = tt
keys_sorted (x ∷ xs) sorted = (keys_below x.0 xs sorted.0, keys_sorted xs sorted.1)

pub first_sorted : (xs : List (OutPoint × ℕ)) → IsSorted (λ a b. outpoint_cmp a.0 b.0) xs → IsStrictlySortedBy outpoint_cmp (keys_of (dedup have_one xs))
first_sorted xs sorted = keys_sorted (dedup have_one xs) (IsStrictlySortedBy-dedup {R = λ (a b : OutPoint × ℕ). outpoint_cmp a.0 b.0} (on_total (λ (a : OutPoint × ℕ). a.0) outpoints_total) {E = have_one} (λ x y. refl) xs sorted)

pub place_within : (at : OutPoint) (changed : List SlotOf) (n place : ℕ) → position_from (is_of at) n changed ≡ Some place → (n ≤ place) × (place < n + length changed)
place_within at [] n place is = absurd (cc is)
place_within at (spot ∷ changed) n place is = by_test (place_within at changed (n + 1) place) (is_same at spot.at) is where
  by_test : (position_from (is_of at) (n + 1) changed ≡ Some place → (n + 1 ≤ place) × (place < n + 1 + length changed))
      → (b : Bool) → cond b (Some n) (position_from (is_of at) (n + 1) changed) ≡ Some place → (n ≤ place) × (place < n + length (spot ∷ changed))
  by_test more true is = let same : n ≡ place = some_is n place is in (omega (arith, same), omega (arith, same))
  by_test more false is = let rest = more is in (omega (arith, rest.0), omega (arith, rest.1))

-- the spot there is the outpoint's
pub place_of : (d : SlotOf) (at : OutPoint) (changed : List SlotOf) (n place : ℕ) → position_from (is_of at) n changed ≡ Some place → at ≡ (get_or changed (place - n) d).at
place_of d at [] n place is = absurd (cc is)
place_of d at (spot ∷ changed) n place is = by_same (place_of d at changed (n + 1) place) (same_or_not at spot.at) is where
  by_same : (position_from (is_of at) (n + 1) changed ≡ Some place → at ≡ (get_or changed (place - (n + 1)) d).at)
      → (at ≡ spot.at) ⊎ (is_same at spot.at ≡ false) → cond (is_same at spot.at) (Some n) (position_from (is_of at) (n + 1) changed) ≡ Some place
      → at ≡ (get_or (spot ∷ changed) (place - n) d).at
  by_same more (inl same) is =
      let here : is_same at spot.at ≡ true = ap (is_same at) (sym same) ∙ same_itself at in
      let first : n ≡ place = some_is n place (subst (λ (b : Bool). cond b (Some n) (position_from (is_of at) (n + 1) changed) ≡ Some place) here is) in
      let none : place - n ≡ 0 = omega (arith, first) in
      same ∙ sym (ap (λ (k : ℕ). (get_or (spot ∷ changed) k d).at) none)
  by_same more (inr other) is =
      let later : position_from (is_of at) (n + 1) changed ≡ Some place = subst (λ (b : Bool). cond b (Some n) (position_from (is_of at) (n + 1) changed) ≡ Some place) other is in
      let within = place_within at changed (n + 1) place later in
      let next : place - n ≡ suc (place - (n + 1)) = omega (arith, within.0) in
      more later ∙ sym (ap (λ (k : ℕ). (get_or (spot ∷ changed) k d).at) next)

-- what stood there
pub stood_at : (before : List (Option OutRow)) (changed : List SlotOf) (outs : Outputs) (at : OutPoint) (n place : ℕ) → length before ≡ length changed
    → position_from (is_of at) n changed ≡ Some place → get (undone before changed outs) at ≡ get_or before (place - n) None
stood_at before [] outs at n place many is = absurd (cc is)
stood_at [] (spot ∷ changed) outs at n place many is = absurd (omega (arith, many))
stood_at (row ∷ before) (spot ∷ changed) outs at n place many is =
    get-put_slot (undone before changed outs) spot.at row at ∙ by_test (stood_at before changed outs at (n + 1) place (omega (arith, many))) (is_same at spot.at) is where
      by_test : (position_from (is_of at) (n + 1) changed ≡ Some place → get (undone before changed outs) at ≡ get_or before (place - (n + 1)) None)
          → (b : Bool) → cond b (Some n) (position_from (is_of at) (n + 1) changed) ≡ Some place
          → cond b row (get (undone before changed outs) at) ≡ get_or (row ∷ before) (place - n) None
      by_test more true is =
          let none : place - n ≡ 0 = let same : n ≡ place = some_is n place is in omega (arith, same) in
          sym (ap (λ (k : ℕ). get_or (row ∷ before) k None) none)
      by_test more false is =
          let within = place_within at changed (n + 1) place is in
          let next : place - n ≡ suc (place - (n + 1)) = omega (arith, within.0) in
          more is ∙ sym (ap (λ (k : ℕ). get_or (row ∷ before) k None) next)

pub stays_at : (before : List (Option OutRow)) (changed : List SlotOf) (outs : Outputs) (at : OutPoint) (n : ℕ)
    → position_from (is_of at) n changed ≡ None → get (undone before changed outs) at ≡ get outs at
stays_at before [] outs at n none = by_rows before where
  by_rows : (rows : List (Option OutRow)) → get (undone rows [] outs) at ≡ get outs at
  by_rows [] = refl
  by_rows (row ∷ rows) = refl
stays_at [] (spot ∷ changed) outs at n none = refl
stays_at (row ∷ before) (spot ∷ changed) outs at n none =
    get-put_slot (undone before changed outs) spot.at row at ∙ by_test (stays_at before changed outs at (n + 1)) (is_same at spot.at) none where
      by_test : (position_from (is_of at) (n + 1) changed ≡ None → get (undone before changed outs) at ≡ get outs at)
          → (b : Bool) → cond b (Some n) (position_from (is_of at) (n + 1) changed) ≡ None
          → cond b row (get (undone before changed outs) at) ≡ get outs at
      by_test more true none = absurd (cc none)
      by_test more false none = more none

-- ---- the rows that are given for keys

pub unless_differs : (b a : Option OutRow) → row_unless b a ≡ cond (differs same_row b a) b None
unless_differs None a = refl
unless_differs (Some x) None = refl
unless_differs (Some x) (Some y) = by_same (same_row x y) where
  by_same : (b : Bool) → (if b then None else Some x) ≡ cond (not b) (Some x) None
  by_same true = refl
  by_same false = refl

pub unless_itself : (row : Option OutRow) → row_unless row row ≡ None
unless_itself None = refl
unless_itself (Some row) = ap (λ (b : Bool). if b then None else Some row) ((same_row-Decides row row).1 refl)

find_row_at : (q at : OutPoint) (row : Option OutRow) (rest : List (OutPoint × OutRow)) → find outpoint_cmp q (row_at at row ++ rest) ≡ cond (is_same q at) (or_else row (find outpoint_cmp q rest)) (find outpoint_cmp q rest)
find_row_at q at None rest = by_test (is_same q at) where
  by_test : (b : Bool) → find outpoint_cmp q rest ≡ cond b (find outpoint_cmp q rest) (find outpoint_cmp q rest)
  by_test true = refl
  by_test false = refl
find_row_at q at (Some row) rest = refl

module _ {X : Type 0} (row : OutPoint → Option OutRow) where
  pub find-rows_for : (entries : List (OutPoint × X)) (q : OutPoint) → find outpoint_cmp q (rows_for row entries) ≡ cond (is_some (lookup (is_at (outpoint_cmp q)) entries)) (row q) None
  find-rows_for [] q = refl
  find-rows_for (e ∷ entries) q = find_row_at q e.0 (row e.0) (rows_for row entries) ∙ by_same (same_or_not q e.0) (find-rows_for entries q) where
    by_rest : (b : Bool) (r : Option OutRow) → or_else r (cond b r None) ≡ r
    by_rest true None = refl
    by_rest false None = refl
    by_rest b (Some r) = refl

    by_same : (q ≡ e.0) ⊎ (is_same q e.0 ≡ false) → find outpoint_cmp q (rows_for row entries) ≡ cond (is_some (lookup (is_at (outpoint_cmp q)) entries)) (row q) None
        → cond (is_same q e.0) (or_else (row e.0) (find outpoint_cmp q (rows_for row entries))) (find outpoint_cmp q (rows_for row entries))
        ≡ cond (is_some (cond (is_same q e.0) (Some e.1) (lookup (is_at (outpoint_cmp q)) entries))) (row q) None
    by_same (inl same) rest =
        let here : is_same q e.0 ≡ true = ap (is_same q) (sym same) ∙ same_itself q in
        rw (here, rest, sym same) (by_rest (is_some (lookup (is_at (outpoint_cmp q)) entries)) (row q))
    by_same (inr other) rest = rw other rest

  below_row : (at : OutPoint) (e : OutPoint × X) (entries : List (OutPoint × X)) (r : Option OutRow) → outpoint_cmp at e.0 ≡ Less → below_all outpoint_cmp at (rows_for row entries) ≡ true
      → below_all outpoint_cmp at (row_at e.0 r ++ rows_for row entries) ≡ true
  below_row at e entries None less rest = rest
  below_row at e entries (Some r) less rest = rw (less, rest) refl

  below-rows_for : (at : OutPoint) (entries : List (OutPoint × X)) → AllByRecursion (λ q. outpoint_cmp at q ≡ Less) (keys_of entries) → below_all outpoint_cmp at (rows_for row entries) ≡ true
  below-rows_for at [] first = refl
  below-rows_for at (e ∷ entries) first = below_row at e entries (row e.0) first.0 (below-rows_for at entries first.1)

  sorted_row : (e : OutPoint × X) (entries : List (OutPoint × X)) (r : Option OutRow) → below_all outpoint_cmp e.0 (rows_for row entries) ≡ true → IsTrue (is_sorted outpoint_cmp (rows_for row entries))
      → IsTrue (is_sorted outpoint_cmp (row_at e.0 r ++ rows_for row entries))
  sorted_row e entries None below rest = rest
  sorted_row e entries (Some r) below rest = rw (below, rest) refl

  pub rows_for-sorted : (entries : List (OutPoint × X)) → IsStrictlySortedBy outpoint_cmp (keys_of entries) → IsTrue (is_sorted outpoint_cmp (rows_for row entries))
  unfolding IsStrictlySortedBy
  rows_for-sorted [] sorted = refl
  rows_for-sorted (e ∷ entries) sorted = sorted_row e entries (row e.0) (below-rows_for e.0 entries sorted.0) (rows_for-sorted entries sorted.1)

-- at the outpoints of all changes these are the rows that are gone
pub are_gone : (before after : Outputs) (places : List (OutPoint × ℕ)) → IsStrictlySortedBy outpoint_cmp (keys_of places)
    → ((q : OutPoint) → lookup (is_at (outpoint_cmp q)) places ≡ None → get before q ≡ get after q)
    → AreGone before after (rows_for (gone_at before after) places)
are_gone before after places ordered stays = record {
  rising = rows_for-sorted (gone_at before after) places ordered;
  rows = λ at row.
      let found : find outpoint_cmp at (rows_for (gone_at before after) places) ≡ cond (differs same_row (get before at) (get after at)) (get before at) None =
      find-rows_for (gone_at before after) places at ∙ by_place at (lookup (is_at (outpoint_cmp at)) places) refl ∙ unless_differs (get before at) (get after at) in
      rw found (has_gone outpoints_total outpoints_exact same_row same_row-Decides (get before at) (get after at) row);
} where
  by_place : (at : OutPoint) (place : Option ℕ) → lookup (is_at (outpoint_cmp at)) places ≡ place → cond (is_some place) (gone_at before after at) None ≡ gone_at before after at
  by_place at (Some place) is = refl
  by_place at None is = sym (ap (row_unless (get before at)) (sym (stays at is)) ∙ unless_itself (get before at))

-- each place among these is that of the oldest change at its outpoint
oldest_there : (changed : List SlotOf) (places : List (OutPoint × ℕ)) (k : ℕ) (d : OutPoint × ℕ) → IsStrictlySortedBy outpoint_cmp (keys_of places)
    → ((at : OutPoint) → lookup (is_at (outpoint_cmp at)) places ≡ position_from (is_of at) 0 changed) → k < length places
    → position_from (is_of (get_or places k d).0) 0 changed ≡ Some (get_or places k d).1
oldest_there changed places k d ordered found less =
    let e : OutPoint × ℕ = get_or places k d in
    sym (found e.0) ∙ lookup_from_place (eq_by_cmp_equiv outpoints_total) places k e.0 e.1 (IsDistinct-from_sorted outpoint_cmp (keys_of places) ordered) (slice_get-get_or places k d less)

pub stays_stood : (before : List (Option OutRow)) (changed : List SlotOf) (outs : Outputs) (places : List (OutPoint × ℕ)) (k : ℕ) (d : OutPoint × ℕ) → length before ≡ length changed
    → IsStrictlySortedBy outpoint_cmp (keys_of places) → ((at : OutPoint) → lookup (is_at (outpoint_cmp at)) places ≡ position_from (is_of at) 0 changed) → k < length places
    → get_or before (get_or places k d).1 None ≡ get (undone before changed outs) (get_or places k d).0
stays_stood before changed outs places k d many ordered found less =
    let e : OutPoint × ℕ = get_or places k d in
    let same : e.1 - 0 ≡ e.1 = omega arith in
    sym (stood_at before changed outs e.0 0 e.1 many (oldest_there changed places k d ordered found less) ∙ ap (λ (n : ℕ). get_or before n None) same)

-- and that of a spot of its outpoint
pub stays_spot : (s : SlotOf) (changed : List SlotOf) (slots : SlotList) (places : List (OutPoint × ℕ)) (k : ℕ) (d : OutPoint × ℕ) → AreSpots changed slots
    → IsStrictlySortedBy outpoint_cmp (keys_of places) → ((at : OutPoint) → lookup (is_at (outpoint_cmp at)) places ≡ position_from (is_of at) 0 changed) → k < length places
    → ((get_or places k d).1 < length changed) × (outpoint_at slots (get_or changed (get_or places k d).1 s).place ≡ Some (get_or places k d).0)
stays_spot s changed slots places k d known ordered found less =
    let e : OutPoint × ℕ = get_or places k d in
    let oldest = oldest_there changed places k d ordered found less in
    let within : e.1 < length changed = let bounds = place_within e.0 changed 0 e.1 oldest in omega (arith, bounds.1) in
    let same : e.1 - 0 ≡ e.1 = omega arith in
    let here : e.0 ≡ (get_or changed e.1 s).at = place_of s e.0 changed 0 e.1 oldest ∙ ap (λ (n : ℕ). (get_or changed n s).at) same in
    (within, spot_known s changed slots e.1 within known ∙ ap Some (sym here))

-- one row more, or none
pub one_more : (row : OutPoint → Option OutRow) (rows rows' all : List (OutPoint × OutRow)) (places : List (OutPoint × ℕ)) (k : ℕ) (d : OutPoint × ℕ) (r : Option OutRow)
    → k < length places → r ≡ row (get_or places k d).0 → rows' ≡ rows ++ row_at (get_or places k d).0 r → rows ++ rows_for row (drop k places) ≡ all → rows' ++ rows_for row (drop (k + 1) places) ≡ all
one_more row rows rows' all places k d r less is pushed so_far =
    let at : OutPoint = (get_or places k d).0 in
    ap (λ (l : List (OutPoint × OutRow)). l ++ rows_for row (drop (k + 1) places)) pushed ∙ append_assoc rows (row_at at r) (rows_for row (drop (k + 1) places))
    ∙ ap (λ (o : Option OutRow). rows ++ (row_at at o ++ rows_for row (drop (k + 1) places))) is
    ∙ ap (λ (l : List (OutPoint × ℕ)). rows ++ rows_for row l) (sym (drop_more places k d less)) ∙ so_far

-- all of them, where none is left
pub all_rows : (row : OutPoint → Option OutRow) (rows : List (OutPoint × OutRow)) (places : List (OutPoint × ℕ)) (k : ℕ) → length places ≤ k → rows ++ rows_for row (drop k places) ≡ rows_for row places → rows_for row places ≡ rows
all_rows row rows places k all so_far =
    sym so_far ∙ ap (λ (l : List (OutPoint × ℕ)). rows ++ rows_for row l) (drop_all k places all) ∙ append-nil rows

-- ---- rows that are placed back

row_held : (sat : ℕ) (outs : Outputs) (at : OutPoint) (row : OutRow) → get outs at ≡ Some row → times sat row.sats ≤ times sat (sats_held outs)
row_held sat outs at row there = omega (arith, times_held sat outs, total_remove outpoints_total outpoints_exact (λ (row : OutRow). times sat row.sats) outs at row there)

two_held : (sat : ℕ) (outs : Outputs) (at other : OutPoint) (row row' : OutRow) → other ≢ at → get outs at ≡ Some row → get outs other ≡ Some row'
    → times sat row.sats + times sat row'.sats ≤ times sat (sats_held outs)
two_held sat outs at other row row' apart there there' =
    let still : get (remove outs at) other ≡ Some row' = get-remove outpoints_total outs at other ∙ by_same (same_or_not other at) in
    omega (arith, times_held sat outs, times_held sat (remove outs at), total_remove outpoints_total outpoints_exact (λ (row : OutRow). times sat row.sats) outs at row there, row_held sat (remove outs at) other row' still) where
      by_same : (other ≡ at) ⊎ (is_same other at ≡ false) → cond (is_same other at) None (get outs other) ≡ Some row'
      by_same (inl same) = absurd (apart same)
      by_same (inr isnt) = rw isnt there'

found_all : (before : Outputs) (rows : List (OutPoint × OutRow)) (q : OutPoint) (row : OutRow) → All (λ e. get before e.0 ≡ Some e.1) rows → find outpoint_cmp q rows ≡ Some row → get before q ≡ Some row
found_all before [] q row all is = absurd (cc is)
found_all before (e ∷ rows) q row all is = by_same (found_all before rows q row (All-tail (λ e. get before e.0 ≡ Some e.1) e rows all)) (same_or_not q e.0) is where
  by_same : (find outpoint_cmp q rows ≡ Some row → get before q ≡ Some row) → (q ≡ e.0) ⊎ (is_same q e.0 ≡ false)
      → cond (is_same q e.0) (Some e.1) (find outpoint_cmp q rows) ≡ Some row → get before q ≡ Some row
  by_same more (inl same) is =
      let here : is_same q e.0 ≡ true = ap (is_same q) (sym same) ∙ same_itself q in
      ap (get before) same ∙ All-head (λ e. get before e.0 ≡ Some e.1) e rows all ∙ subst (λ (b : Bool). cond b (Some e.1) (find outpoint_cmp q rows) ≡ Some row) here is
  by_same more (inr other) is = more (subst (λ (b : Bool). cond b (Some e.1) (find outpoint_cmp q rows) ≡ Some row) other is)

pub may_place : (before old now : Outputs) (list : List (OutPoint × OutRow)) (left k : ℕ) (e : OutPoint × OutRow) → FitIn before old list → now ≡ with_rows old (drop left list)
    → get before e.0 ≡ Some e.1 → MayStand e.0 e.1.sats now
may_place before old now list left k e fit is here = record {
  once = λ sat. omega (arith, fit.once sat, row_held sat before e.0 e.1 here);
  apart = λ other row sat apart there. omega (arith, fit.once sat, two_held sat before e.0 other e.1 row apart here (stands other row (sym (ap (λ (o : Outputs). get o other) is) ∙ there)));
} where
  stands : (other : OutPoint) (row : OutRow) → get (with_rows old (drop left list)) other ≡ Some row → get before other ≡ Some row
  stands other row there = by_found (find outpoint_cmp other (drop left list)) refl (sym (get-with_rows outpoints_total outpoints_exact old (drop left list) other) ∙ there) where
    by_found : (found : Option OutRow) → find outpoint_cmp other (drop left list) ≡ found → or_else found (get old other) ≡ Some row → get before other ≡ Some row
    by_found (Some r) at there = found_all before (drop left list) other row (All-drop (λ e. get before e.0 ≡ Some e.1) left list fit.placed) (at ∙ there)
    by_found None at there = fit.there other row there

-- ---- from one end of a difference to the other

below_none : (at : OutPoint) (rows : List (OutPoint × OutRow)) → T (below_all outpoint_cmp at rows) → find outpoint_cmp at rows ≡ None
below_none at [] h = refl
below_none at (e ∷ rows) h = by_order (below_none at rows) (outpoint_cmp at e.0) h where
  by_order : (T (below_all outpoint_cmp at rows) → find outpoint_cmp at rows ≡ None) → (r : Ordering) → T (is_lt r && below_all outpoint_cmp at rows) → cond (is_eq r) (Some e.1) (find outpoint_cmp at rows) ≡ None
  by_order more Less h = more h
  by_order more Equal h = absurd h
  by_order more Greater h = absurd h

both_true : (a b : Bool) → T (a && b) → T a × T b
both_true true b h = (tt, h)
both_true false b h = absurd h

all_found : (before : Outputs) (rows : List (OutPoint × OutRow)) → T (is_sorted outpoint_cmp rows)
    → ((at : OutPoint) (row : OutRow) → find outpoint_cmp at rows ≡ Some row → get before at ≡ Some row) → All (λ e. get before e.0 ≡ Some e.1) rows
all_found before [] sorted each = All-nil (λ e. get before e.0 ≡ Some e.1)
all_found before (e ∷ rows) sorted each =
    let parts = both_true (below_all outpoint_cmp e.0 rows) (is_sorted outpoint_cmp rows) sorted in
    All-cons (λ e. get before e.0 ≡ Some e.1) e rows
    (each e.0 e.1 (ap (λ (b : Bool). cond b (Some e.1) (find outpoint_cmp e.0 rows)) (same_itself e.0)))
    (all_found before rows parts.1 (λ at row there. each at row (by_same at row parts.0 there (same_or_not at e.0)))) where
      by_same : (at : OutPoint) (row : OutRow) → T (below_all outpoint_cmp e.0 rows) → find outpoint_cmp at rows ≡ Some row → (at ≡ e.0) ⊎ (is_same at e.0 ≡ false)
          → cond (is_same at e.0) (Some e.1) (find outpoint_cmp at rows) ≡ Some row
      by_same at row below there (inl same) =
          let none : None ≡ Some row = sym (below_none e.0 rows below) ∙ ap (λ (q : OutPoint). find outpoint_cmp q rows) (sym same) ∙ there in
          absurd (cc none)
      by_same at row below there (inr other) = rw other there

sorted_T : (b : Bool) → IsTrue b → T b
sorted_T b is = subst T (sym is) tt

-- the rows without those that came, and those that are gone, stand in the table before
pub fits_in : (rows : Outputs) (gone came : List (OutPoint × OutRow)) (ends : EndsIn rows (record { gone = gone; came = came })) → FitIn ends.before (without_rows rows came) gone
fits_in rows gone came ends = record {
  there = λ at row there. stands at row (sym (get-without_rows outpoints_total outpoints_exact rows came at) ∙ there);
  placed = all_found ends.before gone (sorted_T _ ends.differ.gone.rising) (λ at row found. ((ends.differ.gone.rows at row).0 found).0);
  once = ends.once;
} where
  stands : (at : OutPoint) (row : OutRow) → cond (is_some (find outpoint_cmp at came)) None (get rows at) ≡ Some row → get ends.before at ≡ Some row
  stands at row there = by_came (find outpoint_cmp at came) refl there where
    by_before : find outpoint_cmp at came ≡ None → get rows at ≡ Some row → (b : Option OutRow) → get ends.before at ≡ b → b ≡ Some row
    by_before none now None is =
        let gone : find outpoint_cmp at came ≡ Some row = (ends.differ.came.rows at row).1 (now, λ stays. let e : None ≡ Some row = sym is ∙ stays in absurd (cc e)) in
        let e : None ≡ Some row = sym none ∙ gone in absurd (cc e)
    by_before none now (Some other) is = by_same (same_row other row) refl where
      by_same : (b : Bool) → same_row other row ≡ b → Some other ≡ Some row
      by_same true same = ap Some ((same_row-Decides other row).0 same)
      by_same false same =
          let differ : get ends.before at ≢ Some row = λ stays. let e : other ≡ row = some_is other row (sym is ∙ stays) in
          let t : false ≡ true = sym same ∙ (same_row-Decides other row).1 e in absurd (cc t) in
          let gone : find outpoint_cmp at came ≡ Some row = (ends.differ.came.rows at row).1 (now, differ) in
          let e : None ≡ Some row = sym none ∙ gone in absurd (cc e)

    by_came : (found : Option OutRow) → find outpoint_cmp at came ≡ found → cond (is_some found) None (get rows at) ≡ Some row → get ends.before at ≡ Some row
    by_came (Some r) is there = absurd (cc there)
    by_came None is there = by_before is there (get ends.before at) refl

-- ---- the mark

pub mark_is : (marked : Bool) (rows before : Outputs) → (if marked then Some rows else None) ≡ Some before → rows ≡ before
mark_is true rows before is = some_is rows before is
mark_is false rows before is = absurd (cc is)

pub if_ok : {X F : Type 0} (r : Result X F) (P Q : X → Type 0) → ((x : X) → P x → Q x) → IfOk r P → IfOk r Q
if_ok (Ok x) P Q more holds = more x holds
if_ok (Err e) P Q more holds = tt
