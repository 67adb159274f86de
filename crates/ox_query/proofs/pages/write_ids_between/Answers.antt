use Rattle.std.proofs.Common.{arith}
use Rattle.ox_query.proofs.PageRows.{none_written, one_row_more, rows_written}
use Rattle.ox_query.proofs.pages.write_ids_between.Goals as goal

pub loop-n-init : goal.loop-n-init
loop-n-init g c = none_written g.R.Numbered.id_of (g.R.Numbered.rows (g.V.View.index c.args.live.now)) c.args.first c.begin_array.ensures

pub loop-n-preserved : goal.loop-n-preserved
loop-n-preserved g c =
    one_row_more g.R.Numbered.id_of (g.R.Numbered.rows (g.V.View.index c.args.live.now)) c.args.first c.loop-n.n c.at.result.now
    c.loop-n.auto.n c.at.ensures c.loop-n.invariant c.write_id.ensures

pub returns : goal.returns
returns g c = rows_written g.R.Numbered.id_of (g.R.Numbered.rows (g.V.View.index c.args.live.now)) c.args.first c.loop-n.n c.args.end (omega arith) c.loop-n.invariant c.end_array.ensures
