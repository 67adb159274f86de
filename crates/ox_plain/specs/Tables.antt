-- A table by outpoint as a finite map, whatever the order in which it was filled.
use Rattle.std.specs.Prelude.{Bool, true, List, [], Option, Some, None}
use Rattle.std.specs.Ordering.{is_lt}
use Rattle.std.specs.declared.cmp.Ordering.{Ordering}
use Rattle.std.specs.FinMap.{FinMap, from_entries}
use Rattle.ox_block.specs.declared.block.OutPoint.{OutPoint}
use Rattle.ox_rules.specs.Outputs.{outpoint_cmp}
use Rattle.ox_allocation.specs.Balances.{Balance}
use Rattle.ox_etching.specs.declared.row.RuneRow.{RuneRow}
use Rattle.ox_ledger.specs.Runes.{Runes}

abbrev pub table_of : {X : Type 0} → List (OutPoint × X) → FinMap outpoint_cmp X
table_of entries = from_entries entries

-- a key is behind the last one, if there is one
abbrev pub is_behind : {K : Type 0} → (K → K → Ordering) → Option K → K → Bool
is_behind cmp None key = true
is_behind cmp (Some last) key = is_lt (cmp last key)

-- a table of balances and a list of runes, with nothing due
abbrev pub runes_in : List (OutPoint × List Balance) → List RuneRow → Runes
runes_in entries runes = record { bal = table_of entries; runes = runes; due = [] }
