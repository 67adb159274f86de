-- What the ledger's tables show together.
use Rattle.std.specs.Prelude.{List, [], Option, Some, None}
use Rattle.std.specs.FinMap.{empty}
use Rattle.ox_etching.specs.declared.row.RuneRow.{RuneRow}
use Rattle.ox_ledger.specs.declared.tables.Tables.{Tables}
use Rattle.ox_ledger.specs.Runes.{BalanceMap, Placement, Runes}
use Rattle.ox_ledger.specs.Shown.{held_in, held_then}

-- no runes at all
abbrev pub nothing : Runes
nothing = record { bal = empty; runes = []; due = [] }

-- the runes that they hold
abbrev pub runes_of : Tables → Runes
runes_of tables = record {
  bal = held_in tables.holders;
  runes = tables.runes.now;
  due = tables.due.now;
}

-- those at the mark, where all tables have one
abbrev pub runes_then : Option BalanceMap → Option (List RuneRow) → Option (List Placement)
    → Option Runes
runes_then (Some bal) (Some runes) (Some due) =
    Some (record { bal = bal; runes = runes; due = due })
runes_then _ _ _ = None

abbrev pub mark_of : Tables → Option Runes
mark_of tables = runes_then (held_then tables.holders) tables.runes.mark tables.due.mark
