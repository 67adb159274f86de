use Rattle.std.proofs.Common.{arith}
use Rattle.ox_checkpoint.proofs.LostLemmas.{none_whole, one_whole}
use Rattle.ox_checkpoint.proofs.put.lost.cut_at.Goals as goal

pub loop-run-init : goal.loop-run-init
loop-run-init c = none_whole c.args.runs.now c.args.count

pub loop-run-preserved : goal.loop-run-preserved
loop-run-preserved c =
    one_whole c.args.runs.now c.args.count c.loop-run.run-index c.loop-run.whole c.loop-run.left c.loop-run.invariant c.loop-run-test.true (omega (arith, c.if-left-run.false))
