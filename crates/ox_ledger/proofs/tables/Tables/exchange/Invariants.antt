use Rattle.std.proofs.Common.{◌≡◌, ◌≢◌, []}
use Rattle.std.specs.List.{AllByRecursion}
use Rattle.std.specs.Slice.Iter.{iter_rest}
use Rattle.std.specs.Iterator.Adapters.{rev_source}
use Rattle.ox_rules.specs.Differences.{with_rows, without_rows}
use Rattle.ox_ledger.specs.Runes.{Placement}
use Rattle.ox_ledger.specs.Shown.{held_in, held_then}
use Rattle.ox_ledger.proofs.tables.Tables.exchange.Given as goal

abbrev pub invariant-loop-at : goal.invariant-loop-at
invariant-loop-at l = record {
  whole : without_rows (held_in l.self.holders) (iter_rest (rev_source l.at-iterator)) ≡ without_rows (held_in l.fn.self.holders) l.fn.gone;
  runes : l.self.runes ≡ l.fn.self.runes;
  due : l.self.due ≡ l.fn.self.due;
  mark : held_then l.self.holders ≡ held_then l.fn.self.holders;
}

abbrev pub invariant-loop-at-2 : goal.invariant-loop-at-2
invariant-loop-at-2 l = record {
  whole : with_rows (held_in l.self.holders) (iter_rest (rev_source l.at-iterator)) ≡ with_rows (without_rows (held_in l.fn.self.holders) l.fn.gone) l.fn.came;
  some : AllByRecursion (λ (new : Placement). new.1 ≢ []) (iter_rest (rev_source l.at-iterator));
  runes : l.self.runes ≡ l.fn.self.runes;
  due : l.self.due ≡ l.fn.self.due;
  mark : held_then l.self.holders ≡ held_then l.fn.self.holders;
}
