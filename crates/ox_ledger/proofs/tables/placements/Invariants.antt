use Rattle.std.proofs.Common.{◌≡◌, ◌+◌, ◌++◌, length}
use Rattle.ox_ledger.specs.Runes.{placements}
use Rattle.ox_ledger.proofs.tables.placements.Given as goal

abbrev pub invariant-loop-balances : goal.invariant-loop-balances
invariant-loop-balances l = record {
  whole : l.new.items ++ placements l.id l.index l.balances-iterator.rest.items ≡ placements l.id 0 l.fn.given;
  count : l.index + length l.balances-iterator.rest.items ≡ length l.fn.given;
}
