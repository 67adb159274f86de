-- Outputs that hold no satoshis.
use Rattle.std.specs.Prelude.{◌≡◌, Some, []}
use Rattle.std.specs.FinMap.{get}
use Rattle.ox_block.specs.declared.block.OutPoint.{OutPoint}
use Rattle.ox_rules.specs.declared.rows.OutRow.{OutRow}
use Rattle.ox_rules.specs.Outputs.{Outputs}

-- no output holds a satoshi
abbrev pub HoldNothing : Outputs → Type 0
HoldNothing outs = (at : OutPoint) (row : OutRow) → get outs at ≡ Some row → row.sats ≡ []
