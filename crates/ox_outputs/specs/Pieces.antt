-- What stands at the places of pieces.
use Rattle.std.specs.Prelude.{◌≡◌, ◌≢◌, ◌<◌, ℕ, ◌*◌, ◌/◌, ◌%◌, List, map, length, Option, Some}
use Rattle.std.specs.Prelude.{IsSomeAnd, slice_get}
use Rattle.std.specs.List.{range_with_len}
use Rattle.std.specs.Option.{option_and_then}
use Rattle.ox_outputs.specs.declared.piece.Piece.{Piece}
use Rattle.ox_outputs.specs.declared.slot_cell.SlotCell.{SlotCell}
use Rattle.ox_outputs.specs.SlotCells.{slot_in}
use Rattle.ox_outputs.specs.Slots.{Slot, SlotList}

-- the cell at a place of pieces
abbrev pub cell_among : List Piece → ℕ → Option SlotCell
cell_among pieces place = option_and_then
    (λ piece. slice_get piece (place % 16384)) (slice_get pieces (place / 16384))

-- at one place there is this cell now, and at any other what was there
pub record Turns (old new : List Piece) (place : ℕ) (cell : SlotCell) : Type 0 where
  pub changed : cell_among new place ≡ Some cell
  pub others : (other : ℕ) → other ≢ place → cell_among new other ≡ cell_among old other

-- this is the number of a piece of which a place was never given out
abbrev pub HasRoom : List Piece → ℕ → Type 0
HasRoom pieces number =
    IsSomeAnd (slice_get pieces number) (λ piece. length piece < 16384)

-- the slot at a place of pieces
abbrev pub slot_among : List Piece → ℕ → Option Slot
slot_among pieces place = option_and_then slot_in (cell_among pieces place)

-- the slots of pieces, by their places
abbrev pub slots_of : List Piece → SlotList
slots_of pieces = map (slot_among pieces) (range_with_len 0 (16384 * length pieces))
