use Rattle.std.proofs.Common.{◌≡◌, ◌++◌, drop}
use Rattle.ox_ledger.proofs.table.RuneTable.push_all.Given as goal

abbrev pub invariant-loop-row : goal.invariant-loop-row
invariant-loop-row l = record {
  whole : l.self.now ++ drop l.row-index l.rows ≡ l.fn.self.now ++ l.fn.rows;
  mark : l.self.mark ≡ l.fn.self.mark;
}
