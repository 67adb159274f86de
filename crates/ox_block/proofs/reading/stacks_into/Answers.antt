use Rattle.std.proofs.Common.{arith}
use Rattle.std.proofs.lemmas.Result.{err_from_is_err_and}
use Rattle.ox_block.specs.Reading.{stacks_of}
use Rattle.ox_block.proofs.ReadLoops.{stacks_go_on, stacks_end, stacks_done}
use Rattle.ox_block.proofs.reading.stacks_into.Goals as goal

pub returns-in_err-witness : goal.returns-in_err-witness
returns-in_err-witness c =
    let p = err_from_is_err_and c.from_residual.result c.from_residual.ensures.1 in
    rw (p.1, p.2) (stacks_end c.in_err-witness.field-0.0 c.loop-input.inputs c.loop-input.input-index c.input-item.result c.loop-input.rest.now (stacks_of c.args.inputs.now c.args.bytes.now) (omega arith) c.in_err-witness.ensures c.loop-input.invariant)

pub loop-input-preserved : goal.loop-input-preserved
loop-input-preserved c = stacks_go_on c.loop-input.inputs c.loop-input.input-index c.input-item.result c.loop-input.rest.now c.in_ok-witness.witness c.in_ok-witness.after.now (stacks_of c.args.inputs.now c.args.bytes.now) (omega arith) c.in_ok-witness.ensures c.loop-input.invariant

pub returns : goal.returns
returns c = stacks_done c.loop-input.inputs c.loop-input.input-index c.loop-input.rest.now (stacks_of c.args.inputs.now c.args.bytes.now) (omega arith) c.loop-input.invariant
