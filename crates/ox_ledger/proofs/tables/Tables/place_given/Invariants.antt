use Rattle.std.proofs.Common.{◌≡◌, ◌+◌, length}
use Rattle.ox_ledger.specs.Runes.{place_all, placements}
use Rattle.ox_ledger.specs.Steps.{CanPlaceAll}
use Rattle.ox_ledger.specs.Tables.{mark_of, runes_of}
use Rattle.ox_ledger.proofs.tables.Tables.place_given.Given as goal

abbrev pub invariant-loop-balances : goal.invariant-loop-balances
invariant-loop-balances l = record {
  whole : place_all (runes_of l.self) (placements l.id l.index l.balances-iterator.rest.items) ≡ place_all (runes_of l.fn.self) (placements l.id 0 l.fn.given);
  can : CanPlaceAll (runes_of l.self) (placements l.id l.index l.balances-iterator.rest.items);
  count : l.index + length l.balances-iterator.rest.items ≡ length l.fn.given;
  mark : mark_of l.self ≡ mark_of l.fn.self;
}
