-- What the parts of an index hold, and held at their marks.
use Rattle.std.specs.Prelude.{Option}
use Rattle.ox_ledger.specs.Ledger.{mark_in, runes_in}
use Rattle.ox_outputs.specs.Table.{marked_in, rows_in}
use Rattle.ox_index.specs.Held.{Held, held_then}
use Rattle.ox_index.specs.declared.parts.Parts.{Parts}

abbrev pub held_in : Parts → Held
held_in parts = record {
  outs = rows_in parts.outputs;
  inscriptions = parts.shelf.rows;
  runes = runes_in parts.ledger;
}

abbrev pub mark_of : Parts → Option Held
mark_of parts = held_then (marked_in parts.outputs) parts.shelf.mark (mark_in parts.ledger)
