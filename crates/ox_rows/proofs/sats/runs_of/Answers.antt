use Rattle.std.proofs.Common.{None, ap, arith, length, length-append}
use Rattle.std.proofs.lemmas.Result.{err_from_is_err_and}
use Rattle.ox_block.specs.Spelling.{most_value}
use Rattle.ox_range.proofs.RunLemmas.{length-numbers_from}
use Rattle.ox_rows.specs.Reading.{runs_at}
use Rattle.ox_rows.proofs.Loops.{runs_go_on, runs_end, runs_done}
use Rattle.ox_rows.proofs.sats.runs_of.Goals as goal

pub returns-in_err-run : goal.returns-in_err-run
returns-in_err-run c =
    let p = err_from_is_err_and c.from_residual.result c.from_residual.ensures.1 in
    rw (p.1, p.2) (runs_end c.in_err-run.field-0.0 c.loop.sats c.args.count c.loop.counter c.loop.spare c.loop.end c.loop.rest.now (runs_at most_value None c.args.count c.args.bytes.now) c.loop-test.true c.in_err-run.ensures.read c.loop.invariant.all)

pub join-requires : goal.join-requires
join-requires c =
    omega (arith, c.loop.invariant.room, c.in_ok-run.ensures.range.few, ap length c.in_ok-one.ensures, length-numbers_from c.in_ok-run.run'.first c.in_ok-run.run'.count)

pub loop-preserved : goal.loop-preserved
loop-preserved c = record {
  all = rw (c.in_ok-join.ensures.ok, c.in_ok-one.ensures) (runs_go_on c.loop.sats c.args.count c.loop.counter c.loop.spare c.loop.end c.loop.rest.now c.in_ok-run.after.now c.in_ok-run.run' (runs_at most_value None c.args.count c.args.bytes.now) c.loop-test.true c.in_ok-run.ensures.read c.loop.invariant.all);
  room = omega (arith, ap length c.in_ok-join.ensures.ok, length-append c.loop.sats c.in_ok-one.field-0, ap length c.in_ok-one.ensures, length-numbers_from c.in_ok-run.run'.first c.in_ok-run.run'.count, c.loop.invariant.room, c.in_ok-run.ensures.range.few);
}

pub returns : goal.returns
returns c = runs_done c.loop.sats c.args.count c.loop.counter c.loop.spare c.loop.end c.loop.rest.now (runs_at most_value None c.args.count c.args.bytes.now) c.loop-test.false c.loop.invariant.all
