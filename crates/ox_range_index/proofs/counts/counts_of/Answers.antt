use Rattle.std.proofs.Common.{arith}
use Rattle.ox_range.proofs.RunLemmas.{zero_run}
use Rattle.ox_range_index.proofs.CountLaws.{counts_more, counts_all, left_more}
use Rattle.ox_range_index.proofs.counts.counts_of.Goals as goal

pub overflow_add-before : goal.overflow_add-before
overflow_add-before c = omega (arith, left_more c.loop-run.run-index c.args.runs.now zero_run c.loop-run-test.true, c.loop-run.invariant.fits)

pub loop-run-preserved : goal.loop-run-preserved
loop-run-preserved c = record {
  so_far = counts_more c.loop-run.counts.items _ _ c.loop-run.before c.loop-run.run-index c.args.runs.now zero_run c.loop-run-test.true c.in_ok-push.ensures.items c.loop-run.invariant.so_far;
  fits = omega (arith, left_more c.loop-run.run-index c.args.runs.now zero_run c.loop-run-test.true, c.loop-run.invariant.fits);
}

pub returns : goal.returns
returns c = counts_all c.loop-run.counts.items _ c.loop-run.before c.loop-run.run-index c.args.runs.now c.loop-run-test.false c.loop-run.invariant.so_far
