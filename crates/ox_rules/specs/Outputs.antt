-- The unspent outputs, as a finite map from outpoints, in the order of their txids' bytes and then
-- of their indexes.
use Rattle.std.specs.Prelude.{◌≡◌, ◌≢◌, ℕ, ◌+◌, ◌<◌, ◌≤◌, List, count_by, ◌==◌, Some}
use Rattle.std.specs.List.{flat_map}
use Rattle.std.specs.Ordering.{nat_cmp, ordering_then}
use Rattle.std.specs.declared.cmp.Ordering.{Ordering}
use Rattle.std.specs.Cmp.Lexicographic.{slice_cmp}
use Rattle.std.specs.FinMap.{FinMap, get, values}
use Rattle.ox_block.specs.declared.block.OutPoint.{OutPoint}
use Rattle.ox_rules.specs.declared.rows.OutRow.{OutRow}

abbrev pub outpoint_cmp : OutPoint → OutPoint → Ordering
outpoint_cmp a b = ordering_then (slice_cmp nat_cmp a.txid.0 b.txid.0) (nat_cmp a.index b.index)

abbrev pub Outputs : Type 0
Outputs = FinMap outpoint_cmp OutRow

-- the satoshis of some rows, in their order
abbrev pub sats_of : List OutRow → List ℕ
sats_of rows = flat_map (λ row. row.sats) rows

-- the satoshis of all outputs
abbrev pub sats_held : Outputs → List ℕ
sats_held outs = sats_of (values outs)

-- how often a satoshi stands in a list
abbrev pub times : ℕ → List ℕ → ℕ
times sat sats = count_by (λ s. s == sat) sats

-- These satoshis are each there once, and no row at another outpoint holds one of them.
pub record MayStand (at : OutPoint) (sats : List ℕ) (outs : Outputs) : Type 0 where
  pub once : (sat : ℕ) → times sat sats ≤ 1
  pub apart : (other : OutPoint) (row : OutRow) (sat : ℕ) → other ≢ at → get outs other ≡ Some row
      → times sat sats + times sat row.sats ≤ 1

-- each output comes from a block below this height
abbrev pub AreBelow : ℕ → Outputs → Type 0
AreBelow height outs = (at : OutPoint) (row : OutRow) → get outs at ≡ Some row → row.height < height
