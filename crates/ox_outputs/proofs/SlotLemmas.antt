-- What a change of a slot leaves of the rows, and the spots of changes.
use Rattle.std.proofs.Common.{◌≡◌, ◌≢◌, ◌∙◌, ◌<◌, ◌≤◌, ⊎_elim, length-append, drop, get_or, zero, suc, inl, inr, arith, ℕ, Bool, true, false, cond, List, [], ◌∷◌, ◌++◌, length, refl, sym, ap, subst, Option, Some, None, Ordering}
use Rattle.std.specs.Prelude.{◌⊎◌, IsSome, if◌then◌else◌, ◌==◌, ◌||◌, is_some}
use Rattle.std.proofs.lemmas.Bool.{cases_eq, eq-eqb, ne_eqb}
use Rattle.std.proofs.Math.Seq.{drop-cons}
use Rattle.std.specs.Ordering.{eq_by_cmp, is_eq}
use Rattle.std.specs.declared.cmp.Ordering.TheVariants.{Less, Equal, Greater}
use Rattle.std.specs.Cmp.{eq_by_cmp_equiv}
use Rattle.std.specs.FinMap.{get, get_tied, get-insert, get-remove, same_map}
use Rattle.ox_block.specs.declared.block.OutPoint.{OutPoint}
use Rattle.ox_rules.specs.declared.rows.OutRow.{OutRow}
use Rattle.ox_rules.specs.Outputs.{Outputs, outpoint_cmp}
use Rattle.ox_rules.proofs.Orders.{outpoints_total, outpoints_exact}
use Rattle.ox_outputs.specs.SlotCells.{empty_from}
use Rattle.std.specs.Option.{option_and_then}
use Rattle.ox_outputs.specs.Slots.{SlotList, KeepRows, outpoint_at, slot_at, rows_of, put_slot, undone, AreSpots, unless_empty, is_place_of, tidied_at, filled_before}
use Rattle.ox_outputs.specs.Slots.{Slot}
use Rattle.ox_outputs.specs.declared.slot_of.SlotOf.{SlotOf}

pub get-put_slot : (outs : Outputs) (at : OutPoint) (row : Option OutRow) (q : OutPoint) → get (put_slot outs at row) q ≡ cond (eq_by_cmp outpoint_cmp q at) row (get outs q)
get-put_slot outs at None q = get-remove outpoints_total outs at q
get-put_slot outs at (Some row) q = get-insert outpoints_total outs at row q

pub equal : (r : Ordering) → is_eq r ≡ true → r ≡ Equal
equal Less p = absurd (cc p)
equal Equal p = refl
equal Greater p = absurd (cc p)

put_back : (outs : Outputs) (at : OutPoint) (row : Option OutRow) (q : OutPoint) (b : Bool) → eq_by_cmp outpoint_cmp q at ≡ b → cond b (get outs at) (cond b row (get outs q)) ≡ get outs q
put_back outs at row q true is = get_tied outpoints_total outs q at (equal _ is)
put_back outs at row q false is = refl

-- what stood at an outpoint, put back there
pub put_slot-put_slot : (outs : Outputs) (at : OutPoint) (row : Option OutRow) → put_slot (put_slot outs at row) at (get outs at) ≡ outs
put_slot-put_slot outs at row = same_map outpoints_total outpoints_exact (put_slot (put_slot outs at row) at (get outs at)) outs (λ q.
    get-put_slot (put_slot outs at row) at (get outs at) q ∙ ap (cond (eq_by_cmp outpoint_cmp q at) (get outs at)) (get-put_slot outs at row q) ∙ put_back outs at row q (eq_by_cmp outpoint_cmp q at) refl)

-- what is put at an outpoint stands there
pub get-put_slot_same : (outs : Outputs) (at : OutPoint) (row : Option OutRow) → get (put_slot outs at row) at ≡ row
get-put_slot_same outs at row = get-put_slot outs at row at ∙ ap (λ (b : Bool). cond b row (get outs at)) ((eq_by_cmp_equiv outpoints_total).refl at)

put_same : (outs : Outputs) (at q : OutPoint) (b : Bool) → eq_by_cmp outpoint_cmp q at ≡ b → cond b (get outs at) (get outs q) ≡ get outs q
put_same outs at q true is = get_tied outpoints_total outs q at (equal _ is)
put_same outs at q false is = refl

-- an empty slot counts for nothing
pub put_none : (outs : Outputs) (at : OutPoint) → get outs at ≡ None → put_slot outs at None ≡ outs
put_none outs at none = same_map outpoints_total outpoints_exact (put_slot outs at None) outs (λ q.
    get-put_slot outs at None q ∙ ap (λ (r : Option OutRow). cond (eq_by_cmp outpoint_cmp q at) r (get outs q)) (sym none) ∙ put_same outs at q (eq_by_cmp outpoint_cmp q at) refl)

-- ---- changes that are undone

pub undone-append : (rows : List (Option OutRow)) (spots : List SlotOf) (row : Option OutRow) (spot : SlotOf) (outs : Outputs) → length rows ≡ length spots → undone (rows ++ row ∷ []) (spots ++ spot ∷ []) outs ≡ undone rows spots (put_slot outs spot.at row)
undone-append [] [] row spot outs same = refl
undone-append (r ∷ rows) [] row spot outs same = absurd (cc same)
undone-append [] (s ∷ spots) row spot outs same = absurd (cc same)
undone-append (r ∷ rows) (s ∷ spots) row spot outs same = ap (λ (o : Outputs). put_slot o s.at r) (undone-append rows spots row spot outs (cc same))

-- the newest change is undone first
pub undone-last : (d : SlotOf) (rows : List (Option OutRow)) (spots : List SlotOf) (row : Option OutRow) (outs : Outputs) → length rows < length spots → undone (rows ++ row ∷ []) spots outs ≡ undone rows spots (put_slot outs (get_or spots (length rows) d).at row)
undone-last d rows [] row outs short = absurd (omega arith)
undone-last d [] (spot ∷ spots) row outs short = refl
undone-last d (r ∷ rows) (spot ∷ spots) row outs short = ap (λ (o : Outputs). put_slot o spot.at r) (undone-last d rows spots row outs (omega arith))

-- one change is undone
pub undo_step : (d : SlotOf) (rows rest : List (Option OutRow)) (row : Option OutRow) (spots : List SlotOf) (old new final : Outputs) (k : ℕ) → rows ≡ rest ++ row ∷ [] → length rows ≤ length spots → k ≡ length rest → new ≡ put_slot old (get_or spots k d).at row → undone rows spots old ≡ final → undone rest spots new ≡ final
undo_step d rows rest row spots old new final k is short at step so_far =
    let fits : length rest < length spots = omega (arith, ap length is, length-append rest (row ∷ [])) in
    ap (undone rest spots) (step ∙ ap (λ (i : ℕ). put_slot old (get_or spots i d).at row) at) ∙ sym (undone-last d rest spots row old fits) ∙ sym (ap (λ (r : List (Option OutRow)). undone r spots old) is) ∙ so_far

pub no_rows : (rows : List (Option OutRow)) → length rows ≡ 0 → rows ≡ []
no_rows [] none = refl
no_rows (r ∷ rows) none = absurd (cc none)

-- a change that is kept leaves what the mark stands for as it was
pub mark_kept : (before before' : List (Option OutRow)) (changed changed' : List SlotOf) (rows rows' : Outputs) (kept new : Option OutRow) (spot : SlotOf) → before' ≡ before ++ kept ∷ [] → changed' ≡ changed ++ spot ∷ [] → rows' ≡ put_slot rows spot.at new → kept ≡ get rows spot.at → length before ≡ length changed → undone before' changed' rows' ≡ undone before changed rows
mark_kept before before' changed changed' rows rows' kept new spot b c r k same =
    ap (λ (x : List (Option OutRow)). undone x changed' rows') b ∙ ap (λ (x : List SlotOf). undone (before ++ kept ∷ []) x rows') c
    ∙ undone-append before changed kept spot rows' same
    ∙ ap (undone before changed) (ap (λ (x : Outputs). put_slot x spot.at kept) r ∙ ap (put_slot (put_slot rows spot.at new) spot.at) k ∙ put_slot-put_slot rows spot.at new)

pub both_grown : (before before' : List (Option OutRow)) (changed changed' : List SlotOf) (kept : Option OutRow) (spot : SlotOf) → before' ≡ before ++ kept ∷ [] → changed' ≡ changed ++ spot ∷ [] → length before ≡ length changed → length before' ≡ length changed'
both_grown before before' changed changed' kept spot b c same = omega (arith, ap length b, ap length c, length-append before (kept ∷ []), length-append changed (spot ∷ []))

-- where nothing has changed, the mark stands for what it stood for
pub mark_still : (before before' : List (Option OutRow)) (changed changed' : List SlotOf) (rows rows' : Outputs) → before' ≡ before → changed' ≡ changed → rows' ≡ rows → undone before' changed' rows' ≡ undone before changed rows
mark_still before before' changed changed' rows rows' b c r =
    ap (λ (x : List (Option OutRow)). undone x changed' rows') b ∙ (ap (λ (x : List SlotOf). undone before x rows') c ∙ ap (undone before changed) r)

pub both_still : (before before' : List (Option OutRow)) (changed changed' : List SlotOf) → before' ≡ before → changed' ≡ changed → length before ≡ length changed → length before' ≡ length changed'
both_still before before' changed changed' b c same = omega (arith, ap length b, ap length c)

-- the rows at the mark
pub same_mark : (marked : Bool) (old new : Outputs) → new ≡ old → (if marked then Some new else None) ≡ (if marked then Some old else None)
same_mark marked old new is = ap (λ (o : Outputs). if marked then Some o else None) is

-- ---- spots

pub some_there : (o : Option OutPoint) (at : OutPoint) → o ≡ Some at → IsSome o
some_there o at is = subst IsSome (sym is) refl

-- each slot that was there is there still
abbrev pub Keep : SlotList → SlotList → Type 0
Keep old new = (p : ℕ) (q : OutPoint) → outpoint_at old p ≡ Some q → outpoint_at new p ≡ Some q

pub keep_same : (old new : SlotList) → ((p : ℕ) → outpoint_at new p ≡ outpoint_at old p) → Keep old new
keep_same old new same p q is = same p ∙ is

one_spot : (spot : SlotOf) (spots : List SlotOf) (slots : SlotList) → AreSpots (spot ∷ spots) slots → outpoint_at slots spot.place ≡ Some spot.at
one_spot spot spots slots known = cc known

other_spots : (spot : SlotOf) (spots : List SlotOf) (slots : SlotList) → AreSpots (spot ∷ spots) slots → AreSpots spots slots
other_spots spot spots slots known = cc known

spots_with : (spot : SlotOf) (spots : List SlotOf) (slots : SlotList) → outpoint_at slots spot.place ≡ Some spot.at → AreSpots spots slots → AreSpots (spot ∷ spots) slots
spots_with spot spots slots one others i = one i ∷ others i

pub spots_kept : (spots : List SlotOf) (old new : SlotList) → Keep old new → AreSpots spots old → AreSpots spots new
spots_kept [] old new keeps known = refl
spots_kept (spot ∷ spots) old new keeps known =
    spots_with spot spots new (keeps spot.place spot.at (one_spot spot spots old known)) (spots_kept spots old new keeps (other_spots spot spots old known))

pub spot_known : (d : SlotOf) (spots : List SlotOf) (slots : SlotList) (k : ℕ) → k < length spots → AreSpots spots slots → outpoint_at slots (get_or spots k d).place ≡ Some (get_or spots k d).at
spot_known d [] slots k low known = absurd (omega arith)
spot_known d (spot ∷ spots) slots zero low known = one_spot spot spots slots known
spot_known d (spot ∷ spots) slots (suc k) low known = spot_known d spots slots k (omega arith) (other_spots spot spots slots known)

pub spots_more : (spots : List SlotOf) (spot : SlotOf) (slots : SlotList) → AreSpots spots slots → outpoint_at slots spot.place ≡ Some spot.at → AreSpots (spots ++ spot ∷ []) slots
spots_more [] spot slots known there = spots_with spot [] slots there refl
spots_more (s ∷ spots) spot slots known there =
    spots_with s (spots ++ spot ∷ []) slots (one_spot s spots slots known) (spots_more spots spot slots (other_spots s spots slots known) there)

-- the spots of the changes, one more among them, after a change
pub known_more : (changed changed' : List SlotOf) (spot : SlotOf) (old new : SlotList) → changed' ≡ changed ++ spot ∷ [] → AreSpots changed old → outpoint_at new spot.place ≡ Some spot.at → Keep old new → AreSpots changed' new
known_more changed changed' spot old new is known there keeps = subst (λ (l : List SlotOf). AreSpots l new) (sym is) (spots_more changed spot new (spots_kept changed old new keeps known) there)

-- the spots of the changes are slots still
pub known_still : (changed changed' : List SlotOf) (old new : SlotList) → changed' ≡ changed → AreSpots changed old → Keep old new → AreSpots changed' new
known_still changed changed' old new is known keeps = subst (λ (l : List SlotOf). AreSpots l new) (sym is) (spots_kept changed old new keeps known)

-- ---- slots that are tidied

-- the slots with rows stay at each step
pub rows_still : (old mid new : SlotList) → rows_of mid ≡ rows_of old → KeepRows old mid → KeepRows mid new → KeepRows old new
rows_still old mid new same first second p at row is there =
    second p at row (first p at row is there) (ap (λ (o : Outputs). get o at) same ∙ there)

or_true : (b : Bool) → (b || true) ≡ true
or_true true = refl
or_true false = refl

-- the last of some spots is one of them
last_place : (spots : List SlotOf) (spot : SlotOf) → is_place_of (spots ++ spot ∷ []) spot.place ≡ true
last_place [] spot = ap (λ (b : Bool). b || false) (eq-eqb spot.place spot.place refl)
last_place (s ∷ spots) spot = ap (λ (b : Bool). (s.place == spot.place) || b) (last_place spots spot) ∙ or_true (s.place == spot.place)

-- and at other places it counts for nothing
other_place : (spots : List SlotOf) (spot : SlotOf) (p : ℕ) → p ≢ spot.place → is_place_of (spots ++ spot ∷ []) p ≡ is_place_of spots p
other_place [] spot p other = ap (λ (b : Bool). b || false) (ne_eqb spot.place p (λ same. other (sym same)))
other_place (s ∷ spots) spot p other = ap (λ (b : Bool). (s.place == p) || b) (other_place spots spot p other)

row_again : (slot : Slot) (b : Bool) → is_some slot.row ≡ b → unless_empty (cond b (Some slot) None) ≡ cond b (Some slot) None
row_again slot true is = ap (λ (b : Bool). cond b (Some slot) None) is
row_again slot false is = refl

unless_empty_again : (slot : Option Slot) → unless_empty (unless_empty slot) ≡ unless_empty slot
unless_empty_again None = refl
unless_empty_again (Some slot) = row_again slot (is_some slot.row) refl

either_way : (b : Bool) (slot : Option Slot) → cond b (unless_empty (unless_empty slot)) (unless_empty slot) ≡ unless_empty slot
either_way true slot = unless_empty_again slot
either_way false slot = refl

-- the last of some spots is tidied first
pub tidied_step : (spots rest : List SlotOf) (spot : SlotOf) (old new : SlotList) → spots ≡ rest ++ spot ∷ [] → slot_at new spot.place ≡ unless_empty (slot_at old spot.place)
    → ((p : ℕ) → p ≢ spot.place → slot_at new p ≡ slot_at old p) → (p : ℕ) → tidied_at rest new p ≡ tidied_at spots old p
tidied_step spots rest spot old new is here others p = ⊎_elim
    (λ same.
    ap (tidied_at rest new) same
    ∙ ap (λ (s : Option Slot). cond (is_place_of rest spot.place) (unless_empty s) s) here
    ∙ either_way (is_place_of rest spot.place) (slot_at old spot.place)
    ∙ sym (ap (λ (b : Bool). cond b (unless_empty (slot_at old spot.place)) (slot_at old spot.place)) (ap (λ (l : List SlotOf). is_place_of l spot.place) is ∙ last_place rest spot))
    ∙ sym (ap (tidied_at spots old) same))
    (λ other.
    ap (λ (s : Option Slot). cond (is_place_of rest p) (unless_empty s) s) (others p other)
    ∙ sym (ap (λ (b : Bool). cond b (unless_empty (slot_at old p)) (slot_at old p)) (ap (λ (l : List SlotOf). is_place_of l p) is ∙ other_place rest spot p other)))
    (cases_eq p spot.place)

-- the first of some spots is tidied first
pub tidied_first : (rest : List SlotOf) (spot : SlotOf) (old new : SlotList) → slot_at new spot.place ≡ unless_empty (slot_at old spot.place)
    → ((p : ℕ) → p ≢ spot.place → slot_at new p ≡ slot_at old p) → (p : ℕ) → tidied_at rest new p ≡ tidied_at (spot ∷ rest) old p
tidied_first rest spot old new here others p = ⊎_elim
    (λ same.
    ap (tidied_at rest new) same
    ∙ ap (λ (s : Option Slot). cond (is_place_of rest spot.place) (unless_empty s) s) here
    ∙ either_way (is_place_of rest spot.place) (slot_at old spot.place)
    ∙ sym (ap (λ (b : Bool). cond (b || is_place_of rest spot.place) (unless_empty (slot_at old spot.place)) (slot_at old spot.place)) (eq-eqb spot.place spot.place refl))
    ∙ sym (ap (tidied_at (spot ∷ rest) old) same))
    (λ other.
    ap (λ (s : Option Slot). cond (is_place_of rest p) (unless_empty s) s) (others p other)
    ∙ sym (ap (λ (b : Bool). cond (b || is_place_of rest p) (unless_empty (slot_at old p)) (slot_at old p)) (ne_eqb spot.place p (λ same. other (sym same)))))
    (cases_eq p spot.place)

-- the changes from one on, and what stood before them
module _ (changed : List SlotOf) (before : List (Option OutRow)) (n : ℕ) (spot : SlotOf) (row : Option OutRow) (low : n < length changed) (too : n < length before) (is : (d : SlotOf) → spot ≡ get_or changed n d) (stood : (d : Option OutRow) → row ≡ get_or before n d) where
  from_here : filled_before (drop n changed) (drop n before) ≡ filled_before (spot ∷ drop (suc n) changed) (row ∷ drop (suc n) before)
  from_here =
      ap (λ (l : List SlotOf). filled_before l (drop n before)) (drop-cons changed n spot low ∙ ap (λ (s : SlotOf). s ∷ drop (suc n) changed) (sym (is spot)))
      ∙ ap (filled_before (spot ∷ drop (suc n) changed)) (drop-cons before n row too ∙ ap (λ (r : Option OutRow). r ∷ drop (suc n) before) (sym (stood row)))

  -- a row stood before this one
  pub filled_here : is_some row ≡ true → filled_before (drop n changed) (drop n before) ≡ spot ∷ filled_before (drop (suc n) changed) (drop (suc n) before)
  filled_here some = from_here ∙ by_row row some where
    by_row : (r : Option OutRow) → is_some r ≡ true → filled_before (spot ∷ drop (suc n) changed) (r ∷ drop (suc n) before) ≡ spot ∷ filled_before (drop (suc n) changed) (drop (suc n) before)
    by_row (Some r) some = refl
    by_row None some = absurd (cc some)

  -- none stood before it
  pub empty_here : is_some row ≡ false → filled_before (drop n changed) (drop n before) ≡ filled_before (drop (suc n) changed) (drop (suc n) before)
  empty_here none = from_here ∙ by_row row none where
    by_row : (r : Option OutRow) → is_some r ≡ false → filled_before (spot ∷ drop (suc n) changed) (r ∷ drop (suc n) before) ≡ filled_before (drop (suc n) changed) (drop (suc n) before)
    by_row (Some r) none = absurd (cc none)
    by_row None none = refl

-- behind the last change, or the last of what stood before, nothing is left
pub none_left : (changed : List SlotOf) (before : List (Option OutRow)) → (changed ≡ []) ⊎ (before ≡ []) → filled_before changed before ≡ []
none_left [] before none = refl
none_left (s ∷ changed) [] none = refl
none_left (s ∷ changed) (r ∷ before) (inl none) = absurd (cc none)
none_left (s ∷ changed) (r ∷ before) (inr none) = absurd (cc none)

-- ---- slots that are empty

the_same : (a b : OutPoint) → ◌≡◌ {A = Option OutPoint} (Some a) (Some b) → a ≡ b
the_same a b is = cc is

-- the slot of which an outpoint is told because it is empty
pub empty_slot : (slots : SlotList) (place : ℕ) (at : OutPoint) → Some at ≡ empty_from (slot_at slots place) → slot_at slots place ≡ Some (record { at = at; row = None })
empty_slot slots place at is = by_slot (slot_at slots place) is where
  by_row : (s : Slot) (row : Option OutRow) → s.row ≡ row → Some at ≡ (if is_some row then None else Some s.at) → ◌≡◌ {A = Option Slot} (Some s) (Some (record { at = at; row = None }))
  by_row s None none is = let same : s.at ≡ at = sym (the_same at s.at is) in λ i. Some (record { at = same i; row = none i })
  by_row s (Some row) none is = absurd (cc is)

  by_slot : (slot : Option Slot) → Some at ≡ option_and_then (λ slot. if is_some slot.row then None else Some slot.at) slot → slot ≡ Some (record { at = at; row = None })
  by_slot None is = absurd (cc is)
  by_slot (Some s) is = by_row s s.row refl is

-- and where none is told, a slot holds a row
pub not_empty : (slots : SlotList) (place : ℕ) → None ≡ empty_from (slot_at slots place) → slot_at slots place ≡ unless_empty (slot_at slots place)
not_empty slots place is = by_slot (slot_at slots place) is where
  by_row : (s : Slot) (b : Bool) → ◌≡◌ {A = Option OutPoint} None (if b then None else Some s.at) → ◌≡◌ {A = Option Slot} (Some s) (if b then Some s else None)
  by_row s true is = refl
  by_row s false is = absurd (cc is)

  by_slot : (slot : Option Slot) → None ≡ option_and_then (λ slot. if is_some slot.row then None else Some slot.at) slot → slot ≡ unless_empty slot
  by_slot None is = refl
  by_slot (Some s) is = by_row s (is_some s.row) is
