use Rattle.std.proofs.Common.{◌≡◌, ◌+◌, ◌^◌, ◌++◌, drop, length}
use Rattle.std.specs.Prelude.{reverse}
use Rattle.ox_rules.specs.Outputs.{sats_of}
use Rattle.ox_rules.specs.Transfer.{place_rows}
use Rattle.ox_transfer.specs.Apart.{Apart}
use Rattle.ox_rules.specs.Deal.{all_parts}
use Rattle.ox_transfer.proofs.Places.{behind_placed}
use Rattle.ox_transfer.proofs.place.place_outputs.Given as goal

-- the outputs so far, and what the rest gives
abbrev pub invariant-loop-index : goal.invariant-loop-index
invariant-loop-index g l = record {
  so_far : place_rows l.initial.so_far.height l.txid 0 l.outputs (reverse l.initial.so_far.parts.items) (g.O.OutTable.contents l.initial.table) ≡ behind_placed l.displaced.items (place_rows l.initial.so_far.height l.txid l.index (drop l.index l.outputs) (reverse l.so_far.parts.items) (g.O.OutTable.contents l.table));
  each : length (reverse l.so_far.parts.items) + l.index ≡ length l.outputs;
  gone : l.so_far.lost ≡ l.initial.so_far.lost ++ sats_of l.displaced.items;
  apart : Apart (2 ^ 63) (g.O.OutTable.contents l.table) (all_parts (reverse l.so_far.parts.items) ++ l.so_far.lost);
  others : l.so_far ≡ record l.initial.so_far { lost = l.so_far.lost; parts = l.so_far.parts };
  mark : g.O.OutTable.marked l.table ≡ g.O.OutTable.marked l.initial.table;
}
