-- Slots that each have an outpoint of their own: what a change at one place leaves.
use Rattle.std.proofs.Common.{◌≡◌, ◌≢◌, ◌∙◌, ℕ, zero, suc, Bool, true, false, cond, [], ◌∷◌, refl, sym, ap, subst, Option, Some, None, true≢false, inl, inr, ⊎_elim}
use Rattle.std.specs.Prelude.{◌⊎◌, IfSome}
use Rattle.std.specs.Ordering.{eq_by_cmp}
use Rattle.std.specs.Cmp.{eq_by_cmp_equiv}
use Rattle.std.specs.Option.{option_map, option_and_then}
use Rattle.std.proofs.lemmas.Bool.{cases_eq}
use Rattle.std.specs.FinMap.{get, get-empty, same_map}
use Rattle.ox_outputs.specs.Held.{HeldSlots}
use Rattle.ox_block.specs.declared.block.OutPoint.{OutPoint}
use Rattle.ox_rules.specs.declared.rows.OutRow.{OutRow}
use Rattle.ox_rules.specs.Outputs.{outpoint_cmp}
use Rattle.ox_rules.proofs.Orders.{outpoints_total, outpoints_exact}
use Rattle.ox_outputs.specs.Slots.{Slot}
use Rattle.ox_outputs.specs.declared.places.Places.{Places}
use Rattle.ox_outputs.specs.Slots.{SlotList, Updates, outpoint_at, row_at, slot_at, slot_with, put_slot, rows_of}
use Rattle.ox_outputs.specs.Places.{other_at, HasPlace, ArePlaced}
use Rattle.ox_outputs.proofs.SlotLemmas.{equal, get-put_slot}

-- ---- which outpoint it is

abbrev pub is_same : OutPoint → OutPoint → Bool
is_same a b = eq_by_cmp outpoint_cmp a b

pub same_or_not : (a b : OutPoint) → (a ≡ b) ⊎ (is_same a b ≡ false)
same_or_not a b = by_test (is_same a b) refl where
  by_test : (t : Bool) → is_same a b ≡ t → (a ≡ b) ⊎ (is_same a b ≡ false)
  by_test true is = inl (outpoints_exact a b (equal _ is))
  by_test false is = inr is

pub same_itself : (a : OutPoint) → is_same a a ≡ true
same_itself a = (eq_by_cmp_equiv outpoints_total).refl a

pub not_both : (a b : OutPoint) → a ≡ b → is_same a b ≡ false → ⊥
not_both a b same other = true≢false (sym (same_itself a) ∙ ap (is_same a) same ∙ other)

the_outpoint : (a b : OutPoint) → ◌≡◌ {A = Option OutPoint} (Some a) (Some b) → a ≡ b
the_outpoint a b is = cc is

no_outpoint : (a : OutPoint) → ◌≡◌ {A = Option OutPoint} None (Some a) → ⊥
no_outpoint a is = absurd (cc is)

pub no_place : (p : ℕ) → ◌≡◌ {A = Option ℕ} None (Some p) → ⊥
no_place p is = absurd (cc is)

-- ---- the rows of slots

-- no two slots are of one outpoint
abbrev pub AreApart : SlotList → Type 0
AreApart slots = (at : OutPoint) (p q : ℕ) → outpoint_at slots p ≡ Some at → outpoint_at slots q ≡ Some at → p ≡ q

-- no slot is of this outpoint
abbrev pub IsNowhere : SlotList → OutPoint → Type 0
IsNowhere slots at = (p : ℕ) → outpoint_at slots p ≢ Some at

rest_apart : (e : Option Slot) (slots : SlotList) → AreApart (e ∷ slots) → AreApart slots
rest_apart e slots apart at p q one two = cc (apart at (suc p) (suc q) one two)

-- the rows of slots of which the first isn't of this outpoint
get-behind : (s : Slot) (slots : SlotList) (q : OutPoint) → (q ≡ s.at → ⊥) → get (rows_of (Some s ∷ slots)) q ≡ get (rows_of slots) q
get-behind s slots q other = get-put_slot (rows_of slots) s.at s.row q ∙ by_test (same_or_not q s.at) where
  by_test : (q ≡ s.at) ⊎ (is_same q s.at ≡ false) → cond (is_same q s.at) s.row (get (rows_of slots) q) ≡ get (rows_of slots) q
  by_test (inl same) = absurd (other same)
  by_test (inr is) = ap (λ (b : Bool). cond b s.row (get (rows_of slots) q)) is

-- where no slot is of an outpoint, no row stands there
pub get-nowhere : (slots : SlotList) (q : OutPoint) → IsNowhere slots q → get (rows_of slots) q ≡ None
get-nowhere [] q none = get-empty outpoint_cmp q
get-nowhere (None ∷ slots) q none = get-nowhere slots q (λ p. none (suc p))
get-nowhere (Some s ∷ slots) q none = get-behind s slots q (λ same. none zero (ap Some (sym same))) ∙ get-nowhere slots q (λ p. none (suc p))

-- the row at an outpoint is the one in its slot
pub get-at_place : (slots : SlotList) (p : ℕ) (q : OutPoint) → AreApart slots → outpoint_at slots p ≡ Some q → get (rows_of slots) q ≡ row_at slots p
get-at_place [] p q apart is = absurd (no_outpoint q is)
get-at_place (None ∷ slots) zero q apart is = absurd (no_outpoint q is)
get-at_place (None ∷ slots) (suc p) q apart is = get-at_place slots p q (rest_apart None slots apart) is
get-at_place (Some s ∷ slots) zero q apart is =
    get-put_slot (rows_of slots) s.at s.row q
    ∙ ap (λ (b : Bool). cond b s.row (get (rows_of slots) q)) (ap (is_same q) (the_outpoint s.at q is) ∙ same_itself q)
get-at_place (Some s ∷ slots) (suc p) q apart is =
    get-behind s slots q (λ same. absurd (cc (apart q zero (suc p) (ap Some (sym same)) is)))
    ∙ get-at_place slots p q (rest_apart (Some s) slots apart) is

-- an outpoint has a slot, or none
pub somewhere : (slots : SlotList) (q : OutPoint) → ((p : ℕ) × (outpoint_at slots p ≡ Some q)) ⊎ IsNowhere slots q
somewhere [] q = inr (λ p is. no_outpoint q is)
somewhere (e ∷ slots) q = by_first e (somewhere slots q) where
  behind : (e : Option Slot) → (outpoint_at (e ∷ slots) zero ≡ Some q → ⊥) → IsNowhere slots q → IsNowhere (e ∷ slots) q
  behind e first none zero is = first is
  behind e first none (suc p) is = none p is

  by_rest : (e : Option Slot) → (outpoint_at (e ∷ slots) zero ≡ Some q → ⊥) → ((p : ℕ) × (outpoint_at slots p ≡ Some q)) ⊎ IsNowhere slots q → ((p : ℕ) × (outpoint_at (e ∷ slots) p ≡ Some q)) ⊎ IsNowhere (e ∷ slots) q
  by_rest e first (inl found) = inl (suc found.0, found.1)
  by_rest e first (inr none) = inr (behind e first none)

  by_first : (e : Option Slot) → ((p : ℕ) × (outpoint_at slots p ≡ Some q)) ⊎ IsNowhere slots q → ((p : ℕ) × (outpoint_at (e ∷ slots) p ≡ Some q)) ⊎ IsNowhere (e ∷ slots) q
  by_first None rest = by_rest None (no_outpoint q) rest
  by_first (Some s) rest = ⊎_elim
      (λ same. inl (zero, ap Some same))
      (λ other. by_rest (Some s) (λ is. not_both s.at q (the_outpoint s.at q is) other) rest)
      (same_or_not s.at q)

-- ---- a change at one place

-- a slot, if there is one, is of this outpoint
abbrev pub IsOf : OutPoint → Option Slot → Type 0
IsOf at slot = (q : OutPoint) → option_map (λ s. s.at) slot ≡ Some q → at ≡ q

-- At one place there is now this slot, or none. It is the only place of slots of an outpoint.
pub record Changes (s t : HeldSlots) (place : ℕ) (at : OutPoint) (slot : Option Slot) : Type 0 where
  pub updates : Updates s.slots t.slots place slot
  pub apart : AreApart s.slots
  pub old : IsOf at (slot_at s.slots place)
  pub new : IsOf at slot
  pub alone : (p : ℕ) → p ≢ place → outpoint_at s.slots p ≢ Some at

module _ {s t : HeldSlots} {place : ℕ} {at : OutPoint} {slot : Option Slot} (c : Changes s t place at slot) where
  -- the outpoint of a slot elsewhere
  pub outpoint_elsewhere : (p : ℕ) → p ≢ place → outpoint_at t.slots p ≡ outpoint_at s.slots p
  outpoint_elsewhere p other = ap (option_map (λ (s : Slot). s.at)) (c.updates.others p other)

  pub outpoint_here : outpoint_at t.slots place ≡ option_map (λ s. s.at) slot
  outpoint_here = ap (option_map (λ (s : Slot). s.at)) c.updates.changed

  -- the slot at the place, found there, is of the outpoint
  pub found_here : (p : ℕ) (q : OutPoint) → p ≡ place → outpoint_at t.slots p ≡ Some q → at ≡ q
  found_here p q same is = c.new q (sym outpoint_here ∙ ap (outpoint_at t.slots) (sym same) ∙ is)

  pub was_here : (p : ℕ) (q : OutPoint) → p ≡ place → outpoint_at s.slots p ≡ Some q → at ≡ q
  was_here p q same is = c.old q (ap (outpoint_at s.slots) (sym same) ∙ is)

  -- a slot of the outpoint is at the place
  only_here : (p r : ℕ) (q : OutPoint) → p ≡ place → r ≢ place → outpoint_at t.slots p ≡ Some q → outpoint_at t.slots r ≡ Some q → ⊥
  only_here p r q same other one two = c.alone r other (sym (outpoint_elsewhere r other) ∙ two ∙ ap Some (sym (found_here p q same one)))

  pub still_apart : AreApart t.slots
  still_apart q p r one two = ⊎_elim
      (λ same. ⊎_elim (λ too. same ∙ sym too) (λ other. absurd (only_here p r q same other one two)) (cases_eq r place))
      (λ other. ⊎_elim (λ same. absurd (only_here r p q same other two one))
      (λ too. c.apart q p r (sym (outpoint_elsewhere p other) ∙ one) (sym (outpoint_elsewhere r too) ∙ two)) (cases_eq r place))
      (cases_eq p place)

  -- where the outpoint has no slot now
  gone : slot ≡ None → IsNowhere t.slots at
  gone none p is = ⊎_elim
      (λ same. no_outpoint at (sym (ap (option_map (λ (s : Slot). s.at)) none) ∙ sym outpoint_here ∙ ap (outpoint_at t.slots) (sym same) ∙ is))
      (λ other. c.alone p other (sym (outpoint_elsewhere p other) ∙ is))
      (cases_eq p place)

  -- the row at the outpoint
  row_here : get (rows_of t.slots) at ≡ option_and_then (λ s. s.row) slot
  row_here = by_slot slot refl where
    by_slot : (o : Option Slot) → slot ≡ o → get (rows_of t.slots) at ≡ option_and_then (λ s. s.row) slot
    by_slot None is = get-nowhere t.slots at (gone is) ∙ sym (ap (option_and_then (λ (s : Slot). s.row)) is)
    by_slot (Some x) is =
        let of : at ≡ x.at = c.new x.at (ap (option_map (λ (s : Slot). s.at)) is) in
        get-at_place t.slots place at still_apart (outpoint_here ∙ ap (option_map (λ (s : Slot). s.at)) is ∙ ap Some (sym of))
        ∙ ap (option_and_then (λ (s : Slot). s.row)) c.updates.changed

  -- the row at another outpoint
  row_elsewhere : (q : OutPoint) → is_same at q ≡ false → get (rows_of t.slots) q ≡ get (rows_of s.slots) q
  row_elsewhere q apart = ⊎_elim
      (λ found. let other : found.0 ≢ place = λ same. not_both at q (was_here found.0 q same found.1) apart in
      get-at_place t.slots found.0 q still_apart (outpoint_elsewhere found.0 other ∙ found.1)
      ∙ ap (option_and_then (λ (s : Slot). s.row)) (c.updates.others found.0 other)
      ∙ sym (get-at_place s.slots found.0 q c.apart found.1))
      (λ none. get-nowhere t.slots q (λ p is. ⊎_elim
      (λ same. not_both at q (found_here p q same is) apart)
      (λ other. none p (sym (outpoint_elsewhere p other) ∙ is))
      (cases_eq p place))
      ∙ sym (get-nowhere s.slots q none))
      (somewhere s.slots q)

  -- the rows where the slot holds a row or none now
  pub rows_put : (row : Option OutRow) → option_and_then (λ s. s.row) slot ≡ row → rows_of t.slots ≡ put_slot (rows_of s.slots) at row
  rows_put row is = same_map outpoints_total outpoints_exact (rows_of t.slots) (put_slot (rows_of s.slots) at row) (λ q.
      by_test q (same_or_not at q) ∙ sym (get-put_slot (rows_of s.slots) at row q)) where
        by_test : (q : OutPoint) → (at ≡ q) ⊎ (is_same at q ≡ false) → get (rows_of t.slots) q ≡ cond (is_same q at) row (get (rows_of s.slots) q)
        by_test q (inl same) =
            ap (get (rows_of t.slots)) (sym same) ∙ row_here ∙ is
            ∙ sym (ap (λ (b : Bool). cond b row (get (rows_of s.slots) q)) (ap (is_same q) same ∙ same_itself q))
        by_test q (inr other) =
            row_elsewhere q other
            ∙ sym (ap (λ (b : Bool). cond b row (get (rows_of s.slots) q)) ((eq_by_cmp_equiv outpoints_total).symm q at ∙ other))

  -- the rows where the slot holds what stood at the outpoint
  pub rows_same : get (rows_of s.slots) at ≡ option_and_then (λ s. s.row) slot → rows_of t.slots ≡ rows_of s.slots
  rows_same is = same_map outpoints_total outpoints_exact (rows_of t.slots) (rows_of s.slots) (λ q. by_test q (same_or_not at q)) where
    by_test : (q : OutPoint) → (at ≡ q) ⊎ (is_same at q ≡ false) → get (rows_of t.slots) q ≡ get (rows_of s.slots) q
    by_test q (inl same) = ap (get (rows_of t.slots)) (sym same) ∙ row_here ∙ sym is ∙ ap (get (rows_of s.slots)) same
    by_test q (inr other) = row_elsewhere q other

-- ---- the changes

-- the outpoint of a slot, found at its place
slot_of : (s : HeldSlots) (place : ℕ) (at : OutPoint) → outpoint_at s.slots place ≡ Some at → IsOf at (slot_at s.slots place)
slot_of s place at is q too = the_outpoint at q (sym is ∙ too)

-- what a slot holds changes
pub exchanged : (s t : HeldSlots) (place : ℕ) (at : OutPoint) (row : Option OutRow) → AreApart s.slots → outpoint_at s.slots place ≡ Some at → Updates s.slots t.slots place (slot_with (slot_at s.slots place) row) → Changes s t place at (slot_with (slot_at s.slots place) row)
exchanged s t place at row apart is u = record {
  updates = u;
  apart = apart;
  old = slot_of s place at is;
  new = λ q too. the_outpoint at q (sym is ∙ sym (outpoint_with (slot_at s.slots place)) ∙ too);
  alone = λ p other too. other (apart at p place too is);
} where
  outpoint_with : (slot : Option Slot) → option_map (λ s. s.at) (slot_with slot row) ≡ option_map (λ s. s.at) slot
  outpoint_with None = refl
  outpoint_with (Some x) = refl

pub row_with : (s : HeldSlots) (place : ℕ) (at : OutPoint) (row : Option OutRow) → outpoint_at s.slots place ≡ Some at → option_and_then (λ s. s.row) (slot_with (slot_at s.slots place) row) ≡ row
row_with s place at row is = by_slot (slot_at s.slots place) is where
  by_slot : (slot : Option Slot) → option_map (λ s. s.at) slot ≡ Some at → option_and_then (λ s. s.row) (slot_with slot row) ≡ row
  by_slot None none = absurd (no_outpoint at none)
  by_slot (Some x) some = refl

-- a slot is taken away
pub removed : (s t : HeldSlots) (place : ℕ) (at : OutPoint) → AreApart s.slots → outpoint_at s.slots place ≡ Some at → Updates s.slots t.slots place None → Changes s t place at None
removed s t place at apart is u = record {
  updates = u;
  apart = apart;
  old = slot_of s place at is;
  new = λ q too. absurd (no_outpoint q too);
  alone = λ p other too. other (apart at p place too is);
}

-- but a slot with a row stays
pub stays : (s t : HeldSlots) (place p : ℕ) (at : OutPoint) (row : OutRow) → AreApart s.slots → row_at s.slots place ≡ None → Updates s.slots t.slots place None → outpoint_at s.slots p ≡ Some at → get (rows_of s.slots) at ≡ Some row → outpoint_at t.slots p ≡ Some at
stays s t place p at row apart none u is there = ⊎_elim
    (λ same. absurd (no_row row (sym none ∙ ap (row_at s.slots) (sym same) ∙ sym (get-at_place s.slots p at apart is) ∙ there)))
    (λ other. ap (option_map (λ (s : Slot). s.at)) (u.others p other) ∙ is)
    (cases_eq p place)
  where
    no_row : (row : OutRow) → ◌≡◌ {A = Option OutRow} None (Some row) → ⊥
    no_row row is = absurd (cc is)

-- a slot is made
pub made : (s t : HeldSlots) (place : ℕ) (slot : Slot) → AreApart s.slots → IsNowhere s.slots slot.at → slot_at s.slots place ≡ None → Updates s.slots t.slots place (Some slot) → Changes s t place slot.at (Some slot)
made s t place slot apart none free u = record {
  updates = u;
  apart = apart;
  old = λ q too. absurd (no_outpoint q (sym (ap (option_map (λ (s : Slot). s.at)) free) ∙ too));
  new = λ q too. the_outpoint slot.at q too;
  alone = λ p other. none p;
}

-- a slot that was made is taken back
pub given_back : (s t v : HeldSlots) (place : ℕ) (slot : Option Slot) → slot_at s.slots place ≡ None → Updates s.slots t.slots place slot → Updates t.slots v.slots place None → (p : ℕ) → slot_at v.slots p ≡ slot_at s.slots p
given_back s t v place slot free u w p = ⊎_elim
    (λ same. ap (slot_at v.slots) same ∙ w.changed ∙ sym free ∙ ap (slot_at s.slots) (sym same))
    (λ other. w.others p other ∙ u.others p other)
    (cases_eq p place)

-- slots that are alike, place by place, have the same rows
pub rows_alike : (s t : HeldSlots) → AreApart s.slots → ((p : ℕ) → slot_at t.slots p ≡ slot_at s.slots p) → rows_of t.slots ≡ rows_of s.slots
rows_alike s t apart same = same_map outpoints_total outpoints_exact (rows_of t.slots) (rows_of s.slots) (λ q. ⊎_elim
    (λ found. get-at_place t.slots found.0 q apart_too (outpoint found.0 ∙ found.1) ∙ ap (option_and_then (λ (s : Slot). s.row)) (same found.0)
    ∙ sym (get-at_place s.slots found.0 q apart found.1))
    (λ none. get-nowhere t.slots q (λ p is. none p (sym (outpoint p) ∙ is)) ∙ sym (get-nowhere s.slots q none))
    (somewhere s.slots q))
  where
    outpoint : (p : ℕ) → outpoint_at t.slots p ≡ outpoint_at s.slots p
    outpoint p = ap (option_map (λ (s : Slot). s.at)) (same p)

    apart_too : AreApart t.slots
    apart_too q p r one two = apart q p r (sym (outpoint p) ∙ one) (sym (outpoint r) ∙ two)

-- ---- the places of slots

-- where what a slot holds changes
pub outpoints_stay : (s t : HeldSlots) (place : ℕ) (row : Option OutRow) → Updates s.slots t.slots place (slot_with (slot_at s.slots place) row) → (p : ℕ) → outpoint_at t.slots p ≡ outpoint_at s.slots p
outpoints_stay s t place row u p = ⊎_elim
    (λ same. ap (outpoint_at t.slots) same ∙ ap (option_map (λ (s : Slot). s.at)) u.changed ∙ outpoint_with (slot_at s.slots place) ∙ ap (outpoint_at s.slots) (sym same))
    (λ other. ap (option_map (λ (s : Slot). s.at)) (u.others p other))
    (cases_eq p place)
  where
    outpoint_with : (slot : Option Slot) → option_map (λ s. s.at) (slot_with slot row) ≡ option_map (λ s. s.at) slot
    outpoint_with None = refl
    outpoint_with (Some x) = refl

pub placed_same : (m : Places) (s t : SlotList) → ArePlaced m s → ((p : ℕ) → outpoint_at t p ≡ outpoint_at s p) → ArePlaced m t
placed_same m s t h same = record {
  among = λ q p found. h.among q p (sym (same p) ∙ found);
  others = λ q p found. same p ∙ h.others q p found;
  apart = λ q p r one two. h.apart q p r (sym (same p) ∙ one) (sym (same r) ∙ two);
}

-- what is known of the place that was found
pub found_so : (P : ℕ → Type 0) (found : Option ℕ) (place : ℕ) → IfSome found P → found ≡ Some place → P place
found_so P found place holds is = subst (λ (o : Option ℕ). IfSome o P) is holds

-- where a slot is taken away
pub placed_less : (m n : Places) (s t : HeldSlots) (place : ℕ) (at : OutPoint) → ArePlaced m s.slots → outpoint_at s.slots place ≡ Some at → Updates s.slots t.slots place None
    → ((q : OutPoint) (p : ℕ) → HasPlace m q p → q ≢ at → p ≢ place → HasPlace n q p)
    → ((q : OutPoint) → other_at n q ≡ cond (is_same at q) None (other_at m q))
    → ArePlaced n t.slots
placed_less m n s t place at h is u left others =
    let change = removed s t place at h.apart is u in
    record {
      among = λ q p found.
          let other : p ≢ place = λ same. no_outpoint q (sym (outpoint_here change) ∙ ap (outpoint_at t.slots) (sym same) ∙ found) in
          let was = sym (outpoint_elsewhere change p other) ∙ found in
          left q p (h.among q p was) (λ same. other (h.apart at p place (was ∙ ap Some same) is)) other;
      others = λ q p found. ⊎_elim
          (λ same. absurd (no_place p (sym (others q ∙ ap (λ (b : Bool). cond b None (other_at m q)) (ap (is_same at) (sym same) ∙ same_itself at)) ∙ found)))
          (λ other. let was = h.others q p (sym (others q ∙ ap (λ (b : Bool). cond b None (other_at m q)) other) ∙ found) in
          outpoint_elsewhere change p (λ same. not_both at q (was_here change p q same was) other) ∙ was)
          (same_or_not at q);
      apart = still_apart change;
    }
