-- What a ledger shows.
use Rattle.std.specs.Prelude.{Option}
use Rattle.ox_ledger.specs.declared.ledger.Ledger.{Ledger}
use Rattle.ox_ledger.specs.Runes.{Runes}
use Rattle.ox_ledger.specs.Tables.{mark_of, runes_of}

-- the runes now
abbrev pub runes_in : Ledger → Runes
runes_in ledger = runes_of ledger.tables

-- the runes at the mark, if there is one
abbrev pub mark_in : Ledger → Option Runes
mark_in ledger = mark_of ledger.tables
