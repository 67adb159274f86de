use Rattle.std.proofs.Common.{◌≡◌, ◌+◌, ◌^◌, ◌++◌, drop}
use Rattle.ox_rules.specs.Transfer.{spend_all}
use Rattle.ox_transfer.specs.Apart.{Apart}
use Rattle.ox_transfer.specs.Parts.{spent_of, all_behind}
use Rattle.ox_transfer.proofs.spend.spend_txs.Given as goal

-- the transactions so far, and what the rest gives
abbrev pub invariant-loop-index : goal.invariant-loop-index
invariant-loop-index g l = record {
  so_far : spend_all l.height 1 l.txs (g.O.OutTable.contents l.initial.table) ≡ all_behind (spent_of l.so_far (g.O.OutTable.contents l.table)) (spend_all l.height (l.index + 1) (drop l.index l.txs) (g.O.OutTable.contents l.table));
  apart : Apart (2 ^ 63) (g.O.OutTable.contents l.table) (l.so_far.lost ++ l.so_far.fees);
  height : l.so_far.height ≡ l.height;
  mark : g.O.OutTable.marked l.table ≡ g.O.OutTable.marked l.initial.table;
}
