-- The rows of slots in the order of their outpoints.
use Rattle.std.proofs.Common.{get_or, ◌≡◌, ◌∙◌, ◌+◌, ◌<◌, ◌≤◌, ℕ, drop, length, zero, suc, Bool, true, false, cond, T, List, [], ◌∷◌, ◌++◌, map, refl, sym, ap, subst, arith, Option, Some, None, Ordering, inl, inr}
use Rattle.std.specs.Prelude.{◌⊎◌, ◌&&◌, unwrap_or}
use Rattle.std.specs.Option.{option_map}
use Rattle.std.specs.List.{All, AllByRecursion, AllPairs, IsDistinct}
use Rattle.std.specs.List.Sorted.{IsPermutation, IsSorted}
use Rattle.std.specs.Map.{keys_of, lookup}
use Rattle.std.specs.Ordering.{is_eq, is_lt, ordering_reverse}
use Rattle.std.specs.Cmp.{eq_by_cmp_equiv}
use Rattle.std.specs.FinMap.{entries, entries_sorted, find, get, get-empty, get-entries, is_sorted}
use Rattle.std.specs.FinMap.Entries.{below_all, same_entries}
use Rattle.std.specs.declared.cmp.Ordering.TheVariants.{Less, Equal, Greater}
use Rattle.std.proofs.lemmas.List.{append_assoc, append-nil, drop_all, drop_more, map-append}
use Rattle.std.proofs.lemmas.List.Elements.{All-get_or, All-head, All-push, All-tail}
use Rattle.std.proofs.lemmas.List.Sorted.{IsPermutation-map, ranks_by, sorted_far}
use Rattle.ox_block.specs.declared.block.OutPoint.{OutPoint}
use Rattle.ox_rules.specs.declared.rows.OutRow.{OutRow}
use Rattle.ox_rules.specs.Outputs.{Outputs, outpoint_cmp}
use Rattle.ox_rules.proofs.Orders.{outpoints_total, outpoints_exact}
use Rattle.ox_shards.proofs.ListLemmas.{same_value, still_distinct}
use Rattle.ox_outputs.specs.Differing.{row_at}
use Rattle.ox_outputs.specs.Fronts.{IsFront, IsFronted, fronted_cmp, no_outpoint, pair_of}
use Rattle.ox_outputs.specs.InOrder.{IsFilled, entries_in, entry_of, no_entry}
use Rattle.ox_outputs.specs.SlotCells.{entry_from}
use Rattle.ox_outputs.specs.Slots.{Slot, SlotList, outpoint_at, rows_of, slot_at}
use Rattle.ox_outputs.specs.declared.fronted.Fronted.{Fronted}
use Rattle.ox_outputs.proofs.FrontLemmas.{fronted_as}
use Rattle.ox_outputs.proofs.PlaceLemmas.{AreApart, IsNowhere, get-nowhere, is_same, same_itself, same_or_not}
use Rattle.ox_outputs.proofs.SlotLemmas.{get-put_slot}

abbrev Entries : Type 0
Entries = List (OutPoint × OutRow)

pub rest_apart : (e : Option Slot) (slots : SlotList) → AreApart (e ∷ slots) → AreApart slots
rest_apart e slots apart at p q one two = cc (apart at (suc p) (suc q) one two)

-- the outpoint of the first slot is that of no other
pub first_alone : (s : Slot) (slots : SlotList) → AreApart (Some s ∷ slots) → IsNowhere slots s.at
first_alone s slots apart p is = absurd (cc (apart s.at zero (suc p) refl is))

not_none : (at : OutPoint) (s : Slot) (slots : SlotList) → IsNowhere (Some s ∷ slots) at → is_same at s.at ≡ false
not_none at s slots none = by_same (same_or_not at s.at) where
  by_same : (at ≡ s.at) ⊎ (is_same at s.at ≡ false) → is_same at s.at ≡ false
  by_same (inl same) = absurd (none zero (ap Some (sym same)))
  by_same (inr other) = other

-- ---- the rows of slots, as entries

with_row : (at : OutPoint) (row : Option OutRow) (key : OutPoint) (es : Entries) → is_same at key ≡ false → AllByRecursion (λ k. is_same at k ≡ false) (keys_of es)
    → AllByRecursion (λ k. is_same at k ≡ false) (keys_of (row_at key row ++ es))
with_row at None key es other rest = rest
with_row at (Some row) key es other rest = (other, rest)

-- where no slot is of an outpoint, no entry is
none_of : (slots : SlotList) (at : OutPoint) → IsNowhere slots at → AllByRecursion (λ k. is_same at k ≡ false) (keys_of (entries_in slots))
none_of [] at none = tt
none_of (None ∷ slots) at none = none_of slots at (λ p. none (suc p))
none_of (Some s ∷ slots) at none = with_row at s.row s.at (entries_in slots) (not_none at s slots none) (none_of slots at (λ p. none (suc p)))

distinct_with : (at : OutPoint) (row : Option OutRow) (es : Entries) → AllByRecursion (λ k. is_same at k ≡ false) (keys_of es) → IsDistinct is_same (keys_of es)
    → IsDistinct is_same (keys_of (row_at at row ++ es))
unfolding IsDistinct
distinct_with at None es none rest = rest
distinct_with at (Some row) es none rest = (none, rest)

nothing_distinct : IsDistinct is_same []
unfolding IsDistinct
nothing_distinct = tt

-- the entries are of outpoints that differ
pub distinct_in : (slots : SlotList) → AreApart slots → IsDistinct is_same (keys_of (entries_in slots))
distinct_in [] apart = nothing_distinct
distinct_in (None ∷ slots) apart = distinct_in slots (rest_apart None slots apart)
distinct_in (Some s ∷ slots) apart =
    distinct_with s.at s.row (entries_in slots) (none_of slots s.at (first_alone s slots apart)) (distinct_in slots (rest_apart (Some s) slots apart))

found_with : (q at : OutPoint) (row : Option OutRow) (es : Entries) (rest : Outputs) → find outpoint_cmp q es ≡ get rest q → get rest at ≡ None
    → find outpoint_cmp q (row_at at row ++ es) ≡ cond (is_same q at) row (get rest q)
found_with q at (Some row) es rest is none = ap (λ (o : Option OutRow). cond (is_same q at) (Some row) o) is
found_with q at None es rest is none = by_same (same_or_not q at) where
  by_same : (q ≡ at) ⊎ (is_same q at ≡ false) → find outpoint_cmp q es ≡ cond (is_same q at) None (get rest q)
  by_same (inl same) =
      is ∙ ap (get rest) same ∙ none
      ∙ sym (ap (λ (b : Bool). cond b None (get rest q)) (ap (is_same q) (sym same) ∙ same_itself q))
  by_same (inr other) = is ∙ sym (ap (λ (b : Bool). cond b None (get rest q)) other)

-- an entry is found where its row stands
pub found_in : (slots : SlotList) (q : OutPoint) → AreApart slots → find outpoint_cmp q (entries_in slots) ≡ get (rows_of slots) q
found_in [] q apart = sym (get-empty outpoint_cmp q)
found_in (None ∷ slots) q apart = found_in slots q (rest_apart None slots apart)
found_in (Some s ∷ slots) q apart =
    found_with q s.at s.row (entries_in slots) (rows_of slots) (found_in slots q (rest_apart (Some s) slots apart)) (get-nowhere slots s.at (first_alone s slots apart))
    ∙ sym (get-put_slot (rows_of slots) s.at s.row q)

-- ---- entries that are sorted

less_from : (r : Ordering) → is_lt (ordering_reverse r) ≡ false → is_eq r ≡ false → r ≡ Less
less_from Less p q = refl
less_from Equal p q = absurd (cc q)
less_from Greater p q = absurd (cc p)

both_T : (a b : Bool) → a ≡ true → T b → T (a && b)
both_T true b is t = t
both_T false b is t = absurd (cc is)

module _ {X : Type 0} (f : X → OutPoint × OutRow) where
  abbrev Comes : X → X → Type 0
  Comes a b = is_lt (outpoint_cmp (f b).0 (f a).0) ≡ false

  below_rest : (x : X) (xs : List X) → All (Comes x) xs → AllByRecursion (λ k. is_same (f x).0 k ≡ false) (keys_of (map f xs)) → T (below_all outpoint_cmp (f x).0 (map f xs))
  below_rest x [] comes other = tt
  below_rest x (y ∷ xs) comes other =
      let less : outpoint_cmp (f x).0 (f y).0 ≡ Less =
      less_from (outpoint_cmp (f x).0 (f y).0) (ap is_lt (sym (outpoints_total.antisymm (f y).0 (f x).0)) ∙ All-head (Comes x) y xs comes) other.0 in
      both_T (is_lt (outpoint_cmp (f x).0 (f y).0)) (below_all outpoint_cmp (f x).0 (map f xs)) (ap is_lt less) (below_rest x xs (All-tail (Comes x) y xs comes) other.1)

  -- where no key comes before an earlier one and all differ, they strictly rise
  rises : (xs : List X) → AllPairs Comes xs → IsDistinct is_same (keys_of (map f xs)) → T (is_sorted outpoint_cmp (map f xs))
  unfolding IsDistinct
  rises [] pairs apart = tt
  rises (x ∷ xs) pairs apart =
      both_T' (below_all outpoint_cmp (f x).0 (map f xs)) (is_sorted outpoint_cmp (map f xs))
      (below_rest x xs (λ j d inside. pairs zero (suc j) d (omega arith) (omega arith)) apart.0)
      (rises xs (λ i j d below inside. pairs (suc i) (suc j) d (omega arith) (omega arith)) apart.1) where
        both_T' : (a b : Bool) → T a → T b → T (a && b)
        both_T' true b s t = t
        both_T' false b s t = absurd s

  pub sorted_rises : (xs : List X) → IsSorted (λ a b. outpoint_cmp (f a).0 (f b).0) xs → IsDistinct is_same (keys_of (map f xs)) → T (is_sorted outpoint_cmp (map f xs))
  sorted_rises xs sorted apart =
      rises xs (λ i j d below inside. sorted_far _ (ranks_by outpoints_total (λ x. (f x).0)) xs sorted i j d (omega arith) inside) apart

found_as : (q : OutPoint) (es : Entries) → find outpoint_cmp q es ≡ lookup (is_same q) es
found_as q [] = refl
found_as q (e ∷ es) = ap (λ (o : Option OutRow). cond (is_same q e.0) (Some e.1) o) (found_as q es)

-- entries of these outpoints that rise are those of the map
pub in_their_order : (slots : SlotList) (es : Entries) → AreApart slots → IsPermutation (entries_in slots) es → T (is_sorted outpoint_cmp es) → es ≡ entries (rows_of slots)
in_their_order slots es apart moved sorted =
    same_entries outpoint_cmp outpoints_total outpoints_exact es (entries (rows_of slots)) sorted (entries_sorted (rows_of slots)) (λ q.
    found_as q es
    ∙ sym (same_value (eq_by_cmp_equiv outpoints_total) q (entries_in slots) es moved (distinct_in slots apart))
    ∙ sym (found_as q (entries_in slots)) ∙ found_in slots q apart ∙ get-entries (rows_of slots) q)

-- ---- the slots that hold rows, one by one

-- a slot that holds a row is one entry more
one_entry : (slot : Option Slot) (slots : SlotList) (e : OutPoint × OutRow) → Some e ≡ entry_from slot → entries_in (slot ∷ slots) ≡ e ∷ entries_in slots
one_entry None slots e is = absurd (cc is)
one_entry (Some s) slots e is = by_row s.row is where
  by_row : (row : Option OutRow) → Some e ≡ option_map (λ row. (s.at, row)) row → row_at s.at row ++ entries_in slots ≡ e ∷ entries_in slots
  by_row None is = absurd (cc is)
  by_row (Some row) is = ap (λ (o : Option (OutPoint × OutRow)). unwrap_or o e ∷ entries_in slots) (sym is)

-- any other counts for nothing
no_entry_there : (slot : Option Slot) (slots : SlotList) → None ≡ entry_from slot → entries_in (slot ∷ slots) ≡ entries_in slots
no_entry_there None slots none = refl
no_entry_there (Some s) slots none = by_row s.row none where
  by_row : (row : Option OutRow) → None ≡ option_map {T = OutRow} {U = OutPoint × OutRow} (λ row. (s.at, row)) row → row_at s.at row ++ entries_in slots ≡ entries_in slots
  by_row None none = refl
  by_row (Some row) none = absurd (cc none)

-- what stands at the place of a slot that holds a row
entry_is : (slots : SlotList) (one : Fronted) (k : ℕ) (e : OutPoint × OutRow) → Some e ≡ entry_from (slot_at slots k) → one.place ≡ k → entry_of slots one ≡ e
entry_is slots one k e is at = ap (λ (n : ℕ). unwrap_or (entry_from (slot_at slots n)) no_entry) at ∙ sym (ap (λ (o : Option (OutPoint × OutRow)). unwrap_or o no_entry) is)

-- one that holds a row comes behind the others
pub one_more_row : (slots : SlotList) (places places' : List Fronted) (one : Fronted) (e : OutPoint × OutRow) (k : ℕ) (all : Entries) → k < length slots → Some e ≡ entry_from (slot_at slots k) → one.place ≡ k → places' ≡ places ++ one ∷ []
    → map (entry_of slots) places ++ entries_in (drop k slots) ≡ all → map (entry_of slots) places' ++ entries_in (drop (k + 1) slots) ≡ all
one_more_row slots places places' one e k all low is at pushed so_far =
    ap (λ (l : List Fronted). map (entry_of slots) l ++ entries_in (drop (k + 1) slots)) pushed
    ∙ ap (λ (l : Entries). l ++ entries_in (drop (k + 1) slots)) (map-append (entry_of slots) places (one ∷ []))
    ∙ append_assoc (map (entry_of slots) places) (entry_of slots one ∷ []) (entries_in (drop (k + 1) slots))
    ∙ ap (λ (x : OutPoint × OutRow). map (entry_of slots) places ++ x ∷ entries_in (drop (k + 1) slots)) (entry_is slots one k e is at)
    ∙ ap (λ (es : Entries). map (entry_of slots) places ++ es) (sym (ap entries_in (drop_more slots k None low) ∙ one_entry (slot_at slots k) (drop (k + 1) slots) e is))
    ∙ so_far

-- and stands there with its front
pub one_more_filled : (slots : SlotList) (places places' : List Fronted) (one : Fronted) (e : OutPoint × OutRow) (k : ℕ) → Some e ≡ entry_from (slot_at slots k) → one.place ≡ k → IsFront one.front e.0 → places' ≡ places ++ one ∷ []
    → All (IsFilled slots) places → All (IsFilled slots) places'
one_more_filled slots places places' one e k is at front pushed all =
    let here : IsFilled slots one = record { entry = e; there = ap (λ (n : ℕ). entry_from (slot_at slots n)) at ∙ sym is; front = front } in
    subst (All (IsFilled slots)) (sym pushed) (All-push (IsFilled slots) places one all here)

-- and a place without one counts for nothing
pub none_more_row : (slots : SlotList) (places : List Fronted) (k : ℕ) (all : Entries) → k < length slots → None ≡ entry_from (slot_at slots k)
    → map (entry_of slots) places ++ entries_in (drop k slots) ≡ all → map (entry_of slots) places ++ entries_in (drop (k + 1) slots) ≡ all
none_more_row slots places k all low none so_far =
    ap (λ (es : Entries). map (entry_of slots) places ++ es) (sym (ap entries_in (drop_more slots k None low) ∙ no_entry_there (slot_at slots k) (drop (k + 1) slots) none))
    ∙ so_far

-- all of them, where none is left
pub all_of_them : (slots : SlotList) (places : List Fronted) (k : ℕ) (all : Entries) → length slots ≤ k → map (entry_of slots) places ++ entries_in (drop k slots) ≡ all → map (entry_of slots) places ≡ all
all_of_them slots places k all high so_far =
    sym (append-nil (map (entry_of slots) places)) ∙ sym (ap (λ (l : SlotList). map (entry_of slots) places ++ entries_in l) (drop_all k slots high)) ∙ so_far

-- ---- the order

-- the outpoint of a slot that holds a row
outpoint_from : (slot : Option Slot) (e : OutPoint × OutRow) → entry_from slot ≡ Some e → option_map (λ s. s.at) slot ≡ Some e.0
outpoint_from None e is = absurd (cc is)
outpoint_from (Some s) e is = by_row s.row is where
  by_row : (row : Option OutRow) → option_map {T = OutRow} {U = OutPoint × OutRow} (λ row. (s.at, row)) row ≡ Some e → ◌≡◌ {A = Option OutPoint} (Some s.at) (Some e.0)
  by_row None is = absurd (cc is)
  by_row (Some row) is = ap (λ (o : Option (OutPoint × OutRow)). Some (unwrap_or o e).0) is

module _ (slots : SlotList) where
  fronted_here : (one : Fronted) → IsFilled slots one → IsFronted (outpoint_at slots) one
  fronted_here one filled = record {
    outpoint = filled.entry.0;
    there = outpoint_from (slot_at slots one.place) filled.entry filled.there;
    front = filled.front;
  }

  outpoint_here : (one : Fronted) → IsFilled slots one → (pair_of (outpoint_at slots) one).0 ≡ (entry_of slots one).0
  outpoint_here one filled =
      ap (λ (o : Option OutPoint). unwrap_or o no_outpoint) (outpoint_from (slot_at slots one.place) filled.entry filled.there)
      ∙ sym (ap (λ (o : Option (OutPoint × OutRow)). (unwrap_or o no_entry).0) filled.there)

  -- the order of two places is that of the outpoints there
  order_is : (a b : Fronted) → IsFilled slots a → IsFilled slots b → fronted_cmp (outpoint_at slots) a b ≡ outpoint_cmp (entry_of slots a).0 (entry_of slots b).0
  order_is a b p q =
      fronted_as (outpoint_at slots) a b (fronted_here a p) (fronted_here b q)
      ∙ (λ i. outpoint_cmp (outpoint_here a p i) (outpoint_here b q i))

  sorted_there : (places : List Fronted) → All (IsFilled slots) places → IsSorted (fronted_cmp (outpoint_at slots)) places → IsSorted (λ a b. outpoint_cmp (entry_of slots a).0 (entry_of slots b).0) places
  sorted_there places all sorted k d low high =
      ap is_lt (sym (order_is (get_or places (k + 1) d) (get_or places k d) (All-get_or (IsFilled slots) places (k + 1) d high all) (All-get_or (IsFilled slots) places k d (omega (arith, high)) all)))
      ∙ sorted k d low high

  pub sorted_entries : (places places' : List Fronted) → AreApart slots → map (entry_of slots) places ≡ entries_in slots → All (IsFilled slots) places' → IsPermutation places places' → IsSorted (fronted_cmp (outpoint_at slots)) places'
      → map (entry_of slots) places' ≡ entries (rows_of slots)
  sorted_entries places places' apart is filled moved sorted =
      let shuffled : IsPermutation (entries_in slots) (map (entry_of slots) places') = subst (λ (es : Entries). IsPermutation es (map (entry_of slots) places')) is (IsPermutation-map (entry_of slots) places places' moved) in
      let differ : IsDistinct is_same (keys_of (map (entry_of slots) places')) = still_distinct (eq_by_cmp_equiv outpoints_total) no_outpoint (entries_in slots) (map (entry_of slots) places') shuffled (distinct_in slots apart) in
      in_their_order slots (map (entry_of slots) places') apart shuffled (sorted_rises (entry_of slots) places' (sorted_there places' filled sorted) differ)
