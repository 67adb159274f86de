use Rattle.std.specs.Slice.Iter.{iter_rest}
use Rattle.std.specs.Iterator.Adapters.{rev_source}
use Rattle.ox_rules.specs.Differences.{without_rows}
use Rattle.ox_plain.specs.Tables.{table_of}
use Rattle.ox_plain.proofs.TableLemmas.{take_next}
use Rattle.ox_plain.proofs.tables.take_all.Goals as goal

pub loop-at-preserved : goal.loop-at-preserved
loop-at-preserved g c =
    take_next (table_of c.loop-at.table.entries) (table_of c.take.new.table.entries) (iter_rest (rev_source c.loop-at.at-iterator)) (iter_rest (rev_source c.next.new.self)) c.in-Some.field-0.now
    (without_rows (table_of c.args.table.now.entries) c.args.rows.now) c.in-Some.ensures.steps c.take.ensures c.loop-at.invariant
