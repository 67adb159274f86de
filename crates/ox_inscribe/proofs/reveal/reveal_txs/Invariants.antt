use Rattle.std.proofs.Common.{◌≡◌, ◌++◌, length, take, drop}
use Rattle.std.specs.List.{AllZip}
use Rattle.ox_inscribe.specs.Moves.{IsMoveOf}
use Rattle.ox_inscribe.specs.Reveal.{revealed_by_all, revealing_all, rows_of}
use Rattle.ox_inscribe.specs.Scenes.{fees_of}
use Rattle.ox_inscribe.proofs.reveal.reveal_txs.Given as goal

-- the rows so far, and those of the transactions that are left
abbrev pub invariant-loop-place : goal.invariant-loop-place
invariant-loop-place l = record {
  rows : l.rows.rows ++ rows_of (revealed_by_all l.rows.rows (revealing_all l.height (drop l.place l.txs) (drop l.place l.moved)))
      ≡ l.fn.rows.rows ++ rows_of (revealed_by_all l.fn.rows.rows (revealing_all l.height l.txs l.moved));
  fees : l.fees.items ++ fees_of (revealed_by_all l.rows.rows (revealing_all l.height (drop l.place l.txs) (drop l.place l.moved)))
      ≡ fees_of (revealed_by_all l.fn.rows.rows (revealing_all l.height l.txs l.moved));
  moved : AllZip IsMoveOf (drop l.place l.txs) (drop l.place l.moved);
  front : take (length l.fn.rows.rows) l.rows.rows ≡ l.fn.rows.rows;
  jubilee : l.rows.jubilee ≡ l.fn.rows.jubilee;
}
