use Rattle.std.proofs.lemmas.Result.{err_from_is_err_and}
use Rattle.ox_bytes.specs.Reading.{times}
use Rattle.ox_bytes.proofs.TimesLoop.{goes_on, ends, is_done}
use Rattle.ox_rows.proofs.lists.values_of.Goals as goal

pub returns-in_err-value : goal.returns-in_err-value
returns-in_err-value g c =
    let p = err_from_is_err_and c.from_residual.result c.from_residual.ensures.1 in
    rw (p.1, p.2) (ends g.T.Readable.at c.in_err-value.field-0.0 c.loop.values c.args.count c.loop.counter c.loop.rest.now (times g.T.Readable.at c.args.count c.args.bytes.now) c.loop-test.true c.in_err-value.ensures c.loop.invariant)

pub loop-preserved : goal.loop-preserved
loop-preserved g c =
    rw c.in_ok-push.ensures.ok (goes_on g.T.Readable.at c.loop.values c.args.count c.loop.counter c.loop.rest.now c.in_ok-value.value c.in_ok-value.after.now (times g.T.Readable.at c.args.count c.args.bytes.now) c.loop-test.true c.in_ok-value.ensures c.loop.invariant)

pub returns : goal.returns
returns g c = is_done g.T.Readable.at c.loop.values c.args.count c.loop.counter c.loop.rest.now (times g.T.Readable.at c.args.count c.args.bytes.now) c.loop-test.false c.loop.invariant
