-- The rows in which two tables differ, of some outpoints.
use Rattle.std.specs.Prelude.{◌≡◌, ℕ, ◌+◌, ◌≤◌, Bool, List, [], ◌∷◌, ◌++◌, All, Option, Some, None}
use Rattle.std.specs.Prelude.{bytes_eq, ◌==◌, ◌&&◌, if◌then◌else◌, map, slice_get}
use Rattle.std.specs.Option.{option_map}
use Rattle.std.specs.FinMap.{get}
use Rattle.ox_block.specs.declared.block.OutPoint.{OutPoint}
use Rattle.ox_rules.specs.declared.rows.OutRow.{OutRow}
use Rattle.ox_rules.specs.Outputs.{Outputs, sats_held, times}
use Rattle.ox_outputs.specs.declared.fronted.Fronted.{Fronted}
use Rattle.ox_outputs.specs.declared.slot_of.SlotOf.{SlotOf}
use Rattle.ox_outputs.specs.Fronts.{pair_of}

-- whether two rows are the same
abbrev pub is_same_row : OutRow → OutRow → Bool
is_same_row a b =
    bytes_eq a.script b.script && ((a.height == b.height) && bytes_eq a.sats b.sats)

-- the first of two rows, where the second isn't the same
abbrev pub row_unless : Option OutRow → Option OutRow → Option OutRow
row_unless None other = None
row_unless (Some row) None = Some row
row_unless (Some row) (Some other) =
    if is_same_row row other then None else Some row

-- the outpoint of the change at a place
abbrev pub outpoint_in : List SlotOf → ℕ → Option OutPoint
outpoint_in changed place = option_map (λ spot. spot.at) (slice_get changed place)

-- the outpoints of changes, each with the change's place, where places of changes stand
abbrev pub pairs_in : List SlotOf → List Fronted → List (OutPoint × ℕ)
pairs_in changed places = map (pair_of (outpoint_in changed)) places

-- the outpoints of spots, numbered from here on
abbrev pub numbered_from : ℕ → List SlotOf → List (OutPoint × ℕ)
numbered_from n [] = []
numbered_from n (spot ∷ spots) = (spot.at, n) ∷ numbered_from (n + 1) spots

-- a row with its outpoint
abbrev pub row_at : OutPoint → Option OutRow → List (OutPoint × OutRow)
row_at at None = []
row_at at (Some row) = (at, row) ∷ []

-- the rows that are given for the keys of these, in their order
abbrev pub rows_for : {X : Type 0} → (OutPoint → Option OutRow) → List (OutPoint × X)
    → List (OutPoint × OutRow)
rows_for row [] = []
rows_for row (e ∷ es) = row_at e.0 (row e.0) ++ rows_for row es

-- the rows before at an outpoint, where the one after isn't the same
abbrev pub gone_at : Outputs → Outputs → OutPoint → Option OutRow
gone_at before after at = row_unless (get before at) (get after at)

-- Rows that are there, and those that are to be placed behind them, stand so in a table that holds
-- no satoshi twice.
pub record FitIn (before rows : Outputs) (gone : List (OutPoint × OutRow)) : Type 0 where
  pub there : (at : OutPoint) (row : OutRow) → get rows at ≡ Some row → get before at ≡ Some row
  pub placed : All (λ e. get before e.0 ≡ Some e.1) gone
  pub once : (sat : ℕ) → times sat (sats_held before) ≤ 1
