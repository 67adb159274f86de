use Rattle.std.proofs.Common.{◌≡◌}
use Rattle.std.specs.Slice.Iter.{iter_rest}
use Rattle.std.specs.Iterator.Adapters.{rev_source}
use Rattle.ox_ledger.specs.Part.{counts_at, rows_at_end}
use Rattle.ox_plain.proofs.counts.recount_all.Given as goal

-- with those that are left it is with all
abbrev pub invariant-loop-change : goal.invariant-loop-change
invariant-loop-change l =
    rows_at_end (counts_at l.before) (iter_rest (rev_source l.change-iterator)) 0 l.rows.items ≡ rows_at_end (counts_at l.before) l.changes 0 l.fn.runes
