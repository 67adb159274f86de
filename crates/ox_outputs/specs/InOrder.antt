-- The rows by rising outpoint.
use Rattle.std.specs.Prelude.{◌≡◌, ℕ, List, [], Some, None, unwrap_or}
use Rattle.std.specs.Prelude.{◌∷◌, ◌++◌}
use Rattle.ox_block.specs.declared.block.OutPoint.{OutPoint}
use Rattle.ox_rules.specs.declared.rows.OutRow.{OutRow}
use Rattle.ox_outputs.specs.declared.fronted.Fronted.{Fronted}
use Rattle.ox_outputs.specs.Differing.{row_at}
use Rattle.ox_outputs.specs.Fronts.{IsFront, no_outpoint}
use Rattle.ox_outputs.specs.SlotCells.{entry_from}
use Rattle.ox_outputs.specs.Slots.{SlotList, outpoint_at, slot_at}

-- stands for the outpoint and the row of a place where none is
abbrev pub no_entry : OutPoint × OutRow
no_entry = (no_outpoint, record { script = []; height = 0; sats = [] })

-- the outpoint and the row in the slot at a place
abbrev pub entry_of : SlotList → Fronted → OutPoint × OutRow
entry_of slots one = unwrap_or (entry_from (slot_at slots one.place)) no_entry

-- a row stands at this place, and this is the front of its outpoint's id
pub record IsFilled (slots : SlotList) (one : Fronted) : Type 0 where
  pub entry : OutPoint × OutRow
  pub there : entry_from (slot_at slots one.place) ≡ Some entry
  pub front : IsFront one.front entry.0

-- no two slots are of one outpoint
abbrev pub StandApart : SlotList → Type 0
StandApart slots = (at : OutPoint) (p q : ℕ) → outpoint_at slots p ≡ Some at
    → outpoint_at slots q ≡ Some at → p ≡ q

-- the rows that slots hold, with their outpoints, by the places of the slots
abbrev pub entries_in : SlotList → List (OutPoint × OutRow)
entries_in [] = []
entries_in (None ∷ slots) = entries_in slots
entries_in (Some slot ∷ slots) = row_at slot.at slot.row ++ entries_in slots
