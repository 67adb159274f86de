use Rattle.std.proofs.Common.{◌∙◌}
use Rattle.std.specs.Slice.Iter.{iter_rest}
use Rattle.std.specs.Iterator.Adapters.{rev_source}
use Rattle.ox_ledger.specs.Part.{counts_at, rows_at_end}
use Rattle.ox_plain.proofs.CountEnds.{put_counts, recount_done, recount_next}
use Rattle.ox_plain.proofs.counts.recount_all.Goals as goal

pub loop-change-preserved : goal.loop-change-preserved
loop-change-preserved c =
    let side = counts_at c.args.before in
    let now = c.loop-change.rows.items in
    let new = c.recount.new.rows.items in
    let change = c.in-Some.change.now in
    recount_next side now new (iter_rest (rev_source c.loop-change.change-iterator)) (iter_rest (rev_source c.next.new.self)) change (rows_at_end side c.args.changes.now 0 c.args.runes.now) c.in-Some.ensures.steps
    (put_counts side change c.counts_at.result now new c.counts_at.ensures c.recount.ensures.there c.recount.ensures.beyond) c.loop-change.invariant

pub returns : goal.returns
returns c =
    let side = counts_at c.args.before in
    c.from_vec.ensures
    ∙ recount_done side c.loop-change.rows.items (iter_rest (rev_source c.loop-change.change-iterator)) (rows_at_end side c.args.changes.now 0 c.args.runes.now) c.in-None.ensures.steps.0 c.loop-change.invariant
