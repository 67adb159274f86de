use Rattle.std.proofs.Common.{◌≡◌, ◌++◌, take}
use Rattle.ox_inscribe.proofs.shelf.push_rows.Given as goal

abbrev pub invariant-loop-row : goal.invariant-loop-row
invariant-loop-row l = record {
  rows : l.rows.rows ≡ l.fn.rows.rows ++ take l.row-index l.more;
  jubilee : l.rows.jubilee ≡ l.fn.rows.jubilee;
}
