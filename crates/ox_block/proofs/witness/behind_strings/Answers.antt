use Rattle.std.proofs.lemmas.Result.{err_from_is_err_and}
use Rattle.ox_block.specs.Witness.{behind_strings}
use Rattle.ox_block.proofs.StringsInTurn.{behind_more, behind_fault, behind_all}
use Rattle.ox_block.proofs.witness.behind_strings.Goals as goal

pub returns-in_err-after : goal.returns-in_err-after
returns-in_err-after c =
    let p = err_from_is_err_and c.from_residual.result c.from_residual.ensures.1 in
    rw (p.1, p.2) (behind_fault c.args.count c.loop.counter c.in_err-after.field-0.0.left c.loop.rest.now (behind_strings c.args.count c.args.bytes.now) c.loop-test.true c.in_err-after.ensures c.loop.invariant)

pub loop-preserved : goal.loop-preserved
loop-preserved c = behind_more c.args.count c.loop.counter c.loop.rest.now c.in_ok-after.field-0-0.now c.in_ok-after.after.now (behind_strings c.args.count c.args.bytes.now) c.loop-test.true c.in_ok-after.ensures c.loop.invariant

pub returns : goal.returns
returns c = behind_all c.args.count c.loop.counter c.loop.rest.now (behind_strings c.args.count c.args.bytes.now) c.loop-test.false c.loop.invariant
