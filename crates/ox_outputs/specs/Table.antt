-- What the unspent outputs in memory show.
use Rattle.std.specs.Prelude.{ℕ, ◌≤◌, Option, Some, None, if◌then◌else◌}
use Rattle.ox_rules.specs.Differences.{Differ, Difference}
use Rattle.ox_block.specs.declared.block.OutPoint.{OutPoint}
use Rattle.ox_rules.specs.declared.rows.OutRow.{OutRow}
use Rattle.ox_rules.specs.Outputs.{Outputs as Rows, sats_held, times}
use Rattle.ox_outputs.specs.Slots.{rows_of, undone}
use Rattle.ox_outputs.specs.declared.outputs.Outputs.{Outputs}

-- the rows, by outpoint
abbrev pub rows_in : Outputs → Rows
rows_in outputs = rows_of outputs.slots

-- the rows as they were when the mark was set, where there is a mark
abbrev pub marked_in : Outputs → Option Rows
marked_in outputs =
    if outputs.marked
    then Some (undone outputs.before.items outputs.changed.items (rows_of outputs.slots))
    else None

-- a difference ends in these rows, and those before it hold no satoshi twice
pub record EndsIn (rows : Rows) (difference : Difference OutPoint OutRow) : Type 0 where
  pub before : Rows
  pub differ : Differ before rows difference
  pub once : (sat : ℕ) → times sat (sats_held before) ≤ 1
