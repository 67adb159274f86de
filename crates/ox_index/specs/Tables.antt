-- Tables of what outputs hold of runes.
use Rattle.std.specs.Prelude.{List, [], ◌∷◌}
use Rattle.std.specs.FinMap.{from_entries, insert}
use Rattle.ox_block.specs.declared.block.OutPoint.{OutPoint}
use Rattle.ox_allocation.specs.Balances.{Balance}
use Rattle.ox_etching.specs.declared.row.RuneRow.{RuneRow}
use Rattle.ox_ledger.specs.Runes.{BalanceMap, Placement, Runes}

-- balances with what an output holds, if it holds anything
abbrev pub with_some : BalanceMap → OutPoint → List Balance → BalanceMap
with_some bal at [] = bal
with_some bal at (one ∷ more) = insert bal at (one ∷ more)

-- runes of which outputs hold so much, and nothing is due
abbrev pub state_of : List Placement → List RuneRow → Runes
state_of held runes = record { bal = from_entries held; runes = runes; due = [] }
