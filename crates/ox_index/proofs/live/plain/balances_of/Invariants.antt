use Rattle.std.specs.FinMap.{from_entries}
use Rattle.ox_ledger.specs.Ledger.{runes_in}
use Rattle.ox_index.proofs.Holding.{HasUpTo}
use Rattle.ox_index.proofs.live.plain.balances_of.Given as goal

abbrev pub invariant-loop-n : goal.invariant-loop-n
invariant-loop-n l = HasUpTo l.order (runes_in l.ledger).bal l.n (from_entries l.table.entries)
