use Rattle.std.proofs.Common.{◌≡◌}
use Rattle.std.specs.Slice.Iter.{iter_rest}
use Rattle.std.specs.Iterator.Adapters.{rev_source}
use Rattle.ox_rules.specs.Differences.{without_rows}
use Rattle.ox_plain.specs.Tables.{table_of}
use Rattle.ox_plain.proofs.tables.take_all.Given as goal

-- without those that are left it is without all
abbrev pub invariant-loop-at : goal.invariant-loop-at
invariant-loop-at g l = without_rows (table_of l.table.entries) (iter_rest (rev_source l.at-iterator)) ≡ without_rows (table_of l.fn.table.entries) l.fn.rows
