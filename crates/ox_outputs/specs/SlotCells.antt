-- What stands in cells.
use Rattle.std.specs.Prelude.{◌≡◌, ◌≤◌, List, [], ◌∷◌, length, Option, Some, None, is_some}
use Rattle.std.specs.Prelude.{if◌then◌else◌, vec_capacity}
use Rattle.std.specs.Global.{Vec}
use Rattle.std.specs.Option.{option_and_then, option_map}
use Rattle.ox_block.specs.declared.block.OutPoint.{OutPoint}
use Rattle.ox_rules.specs.declared.rows.OutRow.{OutRow}
use Rattle.ox_outputs.specs.declared.slot_cell.CellRef.{CellRef}
use Rattle.ox_outputs.specs.declared.slot_cell.Mark.{Mark}
use Rattle.ox_outputs.specs.declared.slot_cell.Mark.TheVariants.{Free, Empty, Filled}
use Rattle.ox_outputs.specs.declared.slot_cell.SlotCell.{SlotCell}
use Rattle.ox_outputs.specs.Slots.{Slot}

-- the slot with this mark, outpoint and row
abbrev pub slot_as : Mark → OutPoint → OutRow → Option Slot
slot_as Free at row = None
slot_as Empty at row = Some (record { at = at; row = None })
slot_as Filled at row = Some (record { at = at; row = Some row })

-- the slot in a cell
abbrev pub slot_in : SlotCell → Option Slot
slot_in cell = slot_as cell.mark cell.at cell.row

-- the cell with the outpoint and the row to which this leads
abbrev pub cell_of : CellRef → SlotCell
cell_of cell = record { at = cell.at.now; mark = cell.mark; row = cell.row.now }

-- the cells whose outpoints, marks and rows stand in these lists, in one order
abbrev pub cells_of : List OutPoint → List Mark → List OutRow → List SlotCell
cells_of (at ∷ outpoints) (mark ∷ marks) (row ∷ rows) =
    record { at = at; mark = mark; row = row } ∷ cells_of outpoints marks rows
cells_of outpoints marks rows = []

-- There is a mark and a row for each outpoint, and room for 16,384 of each.
pub record AreSideBySide (outpoints : Vec OutPoint) (marks : Vec Mark) (rows : Vec OutRow)
    : Type 0 where
  pub marked : length marks.items ≡ length outpoints.items
  pub filled : length rows.items ≡ length outpoints.items
  pub room : 16384 ≤ vec_capacity outpoints
  pub room_for_marks : 16384 ≤ vec_capacity marks
  pub room_for_rows : 16384 ≤ vec_capacity rows

-- the outpoint of a slot, if it is empty
abbrev pub empty_from : Option Slot → Option OutPoint
empty_from slot = option_and_then (λ s. if is_some s.row then None else Some s.at) slot

-- what a slot holds, with its outpoint
abbrev pub entry_from : Option Slot → Option (OutPoint × OutRow)
entry_from slot = option_and_then (λ s. option_map (λ row. (s.at, row)) s.row) slot
