use Rattle.std.proofs.Common.{◌≡◌, length}
use Rattle.std.specs.Slice.Iter.{iter_rest}
use Rattle.std.specs.Iterator.Adapters.{rev_source}
use Rattle.ox_ledger.specs.Part.{counts_at, rows_at_end}
use Rattle.ox_ledger.proofs.MoveLemmas.{AreWithin}
use Rattle.ox_ledger.proofs.table.RuneTable.recount_all.Given as goal

abbrev pub invariant-loop-change : goal.invariant-loop-change
invariant-loop-change l = record {
  whole : rows_at_end (counts_at l.before) (iter_rest (rev_source l.change-iterator)) 0 l.self.now ≡ rows_at_end (counts_at l.before) l.fn.changes 0 l.fn.self.now;
  within : AreWithin (length l.self.now) (iter_rest (rev_source l.change-iterator));
  mark : l.self.mark ≡ l.fn.self.mark;
}
