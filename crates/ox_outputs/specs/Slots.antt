-- Rows in slots, and what stood in them before.
use Rattle.std.specs.Prelude.{◌≡◌, ◌≢◌, ℕ, ◌==◌, Bool, if◌then◌else◌, List, [], ◌∷◌, map, Option}
use Rattle.std.specs.Prelude.{Some, None, is_some, slice_index_or}
use Rattle.std.specs.List.{list_any}
use Rattle.std.specs.Option.{option_map, option_and_then}
use Rattle.std.specs.FinMap.{empty, get, insert, remove}
use Rattle.ox_block.specs.declared.block.OutPoint.{OutPoint}
use Rattle.ox_rules.specs.declared.rows.OutRow.{OutRow}
use Rattle.ox_rules.specs.Outputs.{Outputs}
use Rattle.ox_outputs.specs.declared.slot_of.SlotOf.{SlotOf}

-- an outpoint with a row, or without one
pub record Slot : Type 0 where
  pub at : OutPoint
  pub row : Option OutRow

-- the slot or nothing at each place from 0 on
abbrev pub SlotList : Type 0
SlotList = List (Option Slot)

-- the slot at a place
abbrev pub slot_at : SlotList → ℕ → Option Slot
slot_at slots place = slice_index_or slots place None

-- at one place there is now this slot, or none, and any other place is as it was
pub record Updates (old new : SlotList) (place : ℕ) (slot : Option Slot) : Type 0 where
  pub changed : slot_at new place ≡ slot
  pub others : (other : ℕ) → other ≢ place → slot_at new other ≡ slot_at old other

-- the outpoint whose slot has this place
abbrev pub outpoint_at : SlotList → ℕ → Option OutPoint
outpoint_at slots place = option_map (λ slot. slot.at) (slot_at slots place)

-- the row at a place, if any
abbrev pub row_at : SlotList → ℕ → Option OutRow
row_at slots place = option_and_then (λ slot. slot.row) (slot_at slots place)

-- a slot with this in place of what it held
abbrev pub slot_with : Option Slot → Option OutRow → Option Slot
slot_with slot row = option_map {T = Slot} (λ s. record { at = s.at; row = row }) slot

-- the slot, if it holds a row
abbrev pub unless_empty : Option Slot → Option Slot
unless_empty slot = option_and_then (λ s. if is_some s.row then Some s else None) slot

-- rows with what a slot holds at an outpoint: a row, or none
abbrev pub put_slot : Outputs → OutPoint → Option OutRow → Outputs
put_slot outs at None = remove outs at
put_slot outs at (Some row) = insert outs at row

-- the rows that slots hold
abbrev pub rows_of : SlotList → Outputs
rows_of [] = empty
rows_of (None ∷ slots) = rows_of slots
rows_of (Some slot ∷ slots) = put_slot (rows_of slots) slot.at slot.row

-- each slot that holds one of the rows is there as before
abbrev pub KeepRows : SlotList → SlotList → Type 0
KeepRows old new = (place : ℕ) (at : OutPoint) (row : OutRow) → outpoint_at old place ≡ Some at
    → get (rows_of old) at ≡ Some row → outpoint_at new place ≡ Some at

-- the rows without some changes, of which the oldest comes first: what stood at each outpoint is
-- put back there
abbrev pub undone : List (Option OutRow) → List SlotOf → Outputs → Outputs
undone (row ∷ before) (spot ∷ changed) outs = put_slot (undone before changed outs) spot.at row
undone before changed outs = outs

-- each of these spots is one of the slots
abbrev pub AreSpots : List SlotOf → SlotList → Type 0
AreSpots spots slots =
    map (λ spot. outpoint_at slots spot.place) spots ≡ map (λ spot. Some spot.at) spots

-- whether a place is that of one of these spots
abbrev pub is_place_of : List SlotOf → ℕ → Bool
is_place_of spots place = list_any (λ spot. spot.place == place) spots

-- the slot at a place when these spots are tidied: there it stays unless it is empty, and anywhere
-- else it stays
abbrev pub tidied_at : List SlotOf → SlotList → ℕ → Option Slot
tidied_at spots slots place =
    if is_place_of spots place then unless_empty (slot_at slots place) else slot_at slots place

-- the spots of those changes before which a row stood
abbrev pub filled_before : List SlotOf → List (Option OutRow) → List SlotOf
filled_before (spot ∷ changed) (Some row ∷ before) = spot ∷ filled_before changed before
filled_before (spot ∷ changed) (None ∷ before) = filled_before changed before
filled_before changed before = []
