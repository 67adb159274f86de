use Rattle.std.proofs.Common.{arith}
use Rattle.std.proofs.lemmas.Result.{err_from_is_err_and}
use Rattle.ox_checkpoint.proofs.PutsLemmas.{all_put_on, ended_then, has_more, none_put_on, one_put_on, slice_get_at}
use Rattle.ox_checkpoint.proofs.put.buffer.put_rows.Goals as goal

pub loop-n-init : goal.loop-n-init
loop-n-init g c =
    none_put_on g.K.Sink.holds g.K.Sink.went (g.R.Rows.spelling c.args.rows.now) (g.R.Rows.fits c.args.rows.now) c.args.sink.now c.args.world.now c.args.buffer.now.rows (g.met.K.Sink.no_call c.args.sink.now c.args.world.now c.requires.taken.0 c.requires.taken.1)

pub put_next-requires-clause-taken : goal.put_next-requires-clause-taken
put_next-requires-clause-taken g c = has_more g.K.Sink.holds g.K.Sink.went _ _ _ _ _ _ _ c.loop-n.invariant.put c.requires.taken

pub returns-in_err-put_next-clause-ended : goal.returns-in_err-put_next-clause-ended
returns-in_err-put_next-clause-ended g c =
    let p = err_from_is_err_and c.from_residual.result c.from_residual.ensures.1 in
    rw (p.1, p.2) (ended_then g.K.Sink.went g.K.Sink.ended g.met.K.Sink.then_went g.met.K.Sink.then_ended _ _ _ _ _ _ _ c.loop-n.invariant.put.went c.in_err-put_next.ensures.ended)

pub loop-n-preserved : goal.loop-n-preserved
loop-n-preserved g c =
    let rows = c.args.rows.now in
    let items = g.R.Rows.items rows in
    let there = slice_get_at items c.loop-n.n (omega (arith, c.loop-n-test.true, c.len-n-end.ensures)) in
    one_put_on g.K.Sink.holds g.K.Sink.went (g.R.Rows.spelling rows) (g.R.Rows.fits rows) c.args.sink.now c.args.world.now c.args.buffer.now.rows g.met.K.Sink.then_went _ _ _ _ _ _ items c.loop-n.n there.0 c.loop-n.invariant there.1 (c.in_ok-put_next.ensures.put there.0 there.1) (c.in_ok-put_next.ensures.fits there.0 there.1)

pub returns-clause-put : goal.returns-clause-put
returns-clause-put g c = (all_put_on g.K.Sink.holds g.K.Sink.went (g.R.Rows.spelling c.args.rows.now) (g.R.Rows.fits c.args.rows.now) _ _ _ _ _ _ (g.R.Rows.items c.args.rows.now) c.loop-n.n (omega (arith, c.loop-n-test.false, c.len-n-end.ensures)) c.loop-n.invariant).0

pub returns-clause-fits : goal.returns-clause-fits
returns-clause-fits g c = (all_put_on g.K.Sink.holds g.K.Sink.went (g.R.Rows.spelling c.args.rows.now) (g.R.Rows.fits c.args.rows.now) _ _ _ _ _ _ (g.R.Rows.items c.args.rows.now) c.loop-n.n (omega (arith, c.loop-n-test.false, c.len-n-end.ensures)) c.loop-n.invariant).1
