use Rattle.std.proofs.Common.{◌≡◌}
use Rattle.ox_ledger.specs.Runes.{place_all}
use Rattle.ox_ledger.specs.Steps.{CanPlaceAll}
use Rattle.ox_ledger.specs.Tables.{mark_of, runes_of}
use Rattle.ox_ledger.proofs.tables.Tables.place_all.Given as goal

abbrev pub invariant-loop-at : goal.invariant-loop-at
invariant-loop-at l = record {
  whole : place_all (runes_of l.self) l.at-iterator.rest.items ≡ place_all (runes_of l.fn.self) l.fn.new.items;
  can : CanPlaceAll (runes_of l.self) l.at-iterator.rest.items;
  mark : mark_of l.self ≡ mark_of l.fn.self;
}
