use Rattle.std.specs.Slice.Iter.{iter_rest}
use Rattle.std.specs.Iterator.Adapters.{rev_source}
use Rattle.ox_rules.specs.Differences.{with_rows}
use Rattle.ox_plain.specs.Tables.{table_of}
use Rattle.ox_plain.proofs.TableLemmas.{put_next}
use Rattle.ox_plain.proofs.tables.put_all.Goals as goal

pub loop-at-preserved : goal.loop-at-preserved
loop-at-preserved g c =
    let row = c.in-Some.field-0.now in
    put_next (table_of c.loop-at.table.entries) (table_of c.put.new.table.entries) (iter_rest (rev_source c.loop-at.at-iterator)) (iter_rest (rev_source c.next.new.self)) row
    c.in_ok-again.field-0 (with_rows (table_of c.args.table.now.entries) c.args.rows.now) c.in-Some.ensures.steps c.in_ok-again.ensures c.in_ok-put.ensures c.loop-at.invariant
