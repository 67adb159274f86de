use Rattle.std.proofs.Common.{◌≡◌, length, take}
use Rattle.ox_inscribe.proofs.rows.Rows.truncate.Given as goal

abbrev pub invariant-loop-self : goal.invariant-loop-self
invariant-loop-self l = record {
  rows : take l.len l.self.rows ≡ take l.len l.fn.self.rows;
  jubilee : l.self.jubilee ≡ l.fn.self.jubilee;
}

abbrev pub decreases-loop-self : goal.decreases-loop-self
decreases-loop-self l = length l.self.rows
