use Rattle.std.proofs.Common.{◌≡◌, ◌++◌, length, take}
use Rattle.std.specs.Prelude.{reverse}
use Rattle.ox_inscribe.proofs.reveal.put_back.Given as goal

-- the rows so far, and those that are left
abbrev pub invariant-loop-row : goal.invariant-loop-row
invariant-loop-row l = record {
  rows : l.rows.rows ++ reverse l.more.items ≡ l.fn.rows.rows ++ reverse l.fn.more.items;
  front : take (length l.fn.rows.rows) l.rows.rows ≡ l.fn.rows.rows;
  jubilee : l.rows.jubilee ≡ l.fn.rows.jubilee;
}

abbrev pub decreases-loop-row : goal.decreases-loop-row
decreases-loop-row l = length l.more.items
