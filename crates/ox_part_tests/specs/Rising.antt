-- Satoshis that stand between two numbers, and outputs that hold such.
use Rattle.std.specs.Prelude.{◌≡◌, ◌<◌, ◌≤◌, ℕ, List, Some}
use Rattle.std.specs.FinMap.{get}
use Rattle.ox_block.specs.declared.block.OutPoint.{OutPoint}
use Rattle.ox_rules.specs.declared.rows.OutRow.{OutRow}
use Rattle.ox_rules.specs.Outputs.{Outputs, times}

-- each satoshi stands in the list at most once, from `low` up and below `end`
pub record AreWithin (low end : ℕ) (sats : List ℕ) : Type 0 where
  pub once : (sat : ℕ) → times sat sats ≤ 1
  pub from : (sat : ℕ) → sat < low → times sat sats ≡ 0
  pub below : (sat : ℕ) → end ≤ sat → times sat sats ≡ 0

-- all outputs' satoshis stand below `end`
abbrev pub HoldBelow : ℕ → Outputs → Type 0
HoldBelow end outs = (at : OutPoint) (row : OutRow) → get outs at ≡ Some row
    → AreWithin 0 end row.sats
