use Rattle.std.proofs.Common.{◌≡◌, ◌^◌, drop}
use Rattle.ox_rules.specs.Outputs.{sats_of}
use Rattle.ox_rules.specs.Transfer.{take_rows}
use Rattle.ox_transfer.specs.Apart.{Apart}
use Rattle.ox_transfer.proofs.Takes.{behind_rows}
use Rattle.ox_transfer.proofs.take.take_inputs.Given as goal

-- the rows so far, and what the rest gives
abbrev pub invariant-loop-place : goal.invariant-loop-place
invariant-loop-place g l = record {
  so_far : take_rows l.tx 0 l.inputs (g.O.OutTable.contents l.initial.table) ≡ behind_rows l.rows (take_rows l.tx l.place (drop l.place l.inputs) (g.O.OutTable.contents l.table));
  joined : l.sats ≡ sats_of l.rows;
  apart : Apart (2 ^ 63) (g.O.OutTable.contents l.table) l.sats;
  mark : g.O.OutTable.marked l.table ≡ g.O.OutTable.marked l.initial.table;
}
