use Rattle.std.proofs.Common.{None}
use Rattle.std.proofs.lemmas.Result.{err_from_is_err_and}
use Rattle.ox_rows.specs.Reading.{rising_at}
use Rattle.ox_rows.proofs.Loops.{rising_goes_on, rising_ends_at_key, rising_ends_at_value, rising_is_done}
use Rattle.ox_rows.proofs.rising.rising_of.Goals as goal

pub returns-in_err-key : goal.returns-in_err-key
returns-in_err-key g c =
    let p = err_from_is_err_and c.from_residual.result c.from_residual.ensures.1 in
    let total = rising_at g.K.Ord.cmp g.K.Readable.at g.X.Readable.at None c.args.count c.args.bytes.now in
    rw (p.1, p.2) (rising_ends_at_key g.K.Ord.cmp g.K.Readable.at g.X.Readable.at c.in_err-key.field-0.0 c.loop.rows.items c.args.count c.loop.counter c.loop.last c.loop.rest.now total c.loop-test.true c.in_err-key.ensures c.loop.invariant)

pub returns-in_err-value : goal.returns-in_err-value
returns-in_err-value g c =
    let p = err_from_is_err_and c.from_residual-in_err-value.result c.from_residual-in_err-value.ensures.1 in
    let total = rising_at g.K.Ord.cmp g.K.Readable.at g.X.Readable.at None c.args.count c.args.bytes.now in
    rw (p.1, p.2) (rising_ends_at_value g.K.Ord.cmp g.K.Readable.at g.X.Readable.at c.in_err-value.field-0.0 c.loop.rows.items c.args.count c.loop.counter c.loop.last c.loop.rest.now c.in_ok-key.behind_key.now c.in_ok-key.key total c.loop-test.true c.in_ok-key.ensures c.in_err-value.ensures c.loop.invariant)

pub loop-preserved : goal.loop-preserved
loop-preserved g c =
    let total = rising_at g.K.Ord.cmp g.K.Readable.at g.X.Readable.at None c.args.count c.args.bytes.now in
    rw c.in_ok-push.ensures.items (rising_goes_on g.K.Ord.cmp g.K.Readable.at g.X.Readable.at c.loop.rows.items c.args.count c.loop.counter c.loop.last c.loop.rest.now c.in_ok-key.behind_key.now c.in_ok-value.after.now c.in_ok-key.key c.in_ok-value.value total c.loop-test.true c.in_ok-key.ensures c.in_ok-value.ensures c.loop.invariant)

pub returns : goal.returns
returns g c =
    let total = rising_at g.K.Ord.cmp g.K.Readable.at g.X.Readable.at None c.args.count c.args.bytes.now in
    rising_is_done g.K.Ord.cmp g.K.Readable.at g.X.Readable.at c.loop.rows.items c.args.count c.loop.counter c.loop.last c.loop.rest.now total c.loop-test.false c.loop.invariant
