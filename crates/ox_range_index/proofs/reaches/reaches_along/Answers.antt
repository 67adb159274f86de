use Rattle.std.proofs.Common.{rules}
use Rattle.ox_range.proofs.RunLemmas.{zero_run}
use Rattle.ox_range_index.proofs.ReachLaws.{reaches_more, reaches_all}
use Rattle.ox_range_index.proofs.reaches.reaches_along.Goals as goal

pub loop-run-preserved : goal.loop-run-preserved
loop-run-preserved c = reaches_more c.loop-run.reaches.items _ _ c.loop-run.end c.max-end.result c.loop-run.run-index c.args.sorted.now zero_run c.loop-run-test.true (search rules) c.in_ok-push.ensures.items c.loop-run.invariant

pub returns : goal.returns
returns c = reaches_all c.loop-run.reaches.items _ c.loop-run.end c.loop-run.run-index c.args.sorted.now c.loop-run-test.false c.loop-run.invariant
