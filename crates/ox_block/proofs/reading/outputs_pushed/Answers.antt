use Rattle.std.proofs.lemmas.Result.{err_from_is_err_and}
use Rattle.ox_block.specs.Reading.{outputs_of}
use Rattle.ox_block.proofs.ReadLoops.{outputs_go_on, outputs_end, outputs_done}
use Rattle.ox_block.proofs.reading.outputs_pushed.Goals as goal

pub returns-in_err-output : goal.returns-in_err-output
returns-in_err-output c =
    let p = err_from_is_err_and c.from_residual.result c.from_residual.ensures.1 in
    rw (p.1, p.2) (outputs_end c.in_err-output.field-0.0 c.loop.outputs c.args.count c.loop.counter c.loop.spare c.loop.rest.now (outputs_of c.args.count c.args.most c.args.bytes.now) c.loop-test.true c.in_err-output.ensures c.loop.invariant)

pub loop-preserved : goal.loop-preserved
loop-preserved c =
    rw (c.in_ok-push.ensures.ok, c.saturating_sub-spare.ensures) (outputs_go_on c.loop.outputs c.args.count c.loop.counter c.loop.spare c.loop.rest.now c.in_ok-output.output c.in_ok-output.after.now (outputs_of c.args.count c.args.most c.args.bytes.now) c.loop-test.true c.in_ok-output.ensures c.loop.invariant)

pub returns : goal.returns
returns c = outputs_done c.loop.outputs c.args.count c.loop.counter c.loop.spare c.loop.rest.now (outputs_of c.args.count c.args.most c.args.bytes.now) c.loop-test.false c.loop.invariant
