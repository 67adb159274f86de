-- What outputs hold of runes, output by output.
use Rattle.std.specs.Prelude.{List, [], ◌∷◌}
use Rattle.std.specs.List.{flat_map}
use Rattle.ox_block.specs.declared.block.OutPoint.{OutPoint}
use Rattle.ox_rules.specs.declared.rows.OutRow.{OutRow}
use Rattle.ox_allocation.specs.Balances.{Balance}
use Rattle.ox_ledger.specs.Runes.{BalanceMap, Placement, balances_at}

-- the runes at an outpoint, if there are any
abbrev pub placed_at : OutPoint → List Balance → List Placement
placed_at at [] = []
placed_at at (one ∷ more) = (at, one ∷ more) ∷ []

-- what an output holds, if it holds any
abbrev pub held_at : BalanceMap → OutPoint × OutRow → List Placement
held_at bal placed = placed_at placed.0 (balances_at bal placed.0)

-- those of some outputs that hold runes, each with these
abbrev pub held_by : BalanceMap → List (OutPoint × OutRow) → List Placement
held_by bal rows = flat_map (held_at bal) rows
