use Rattle.std.proofs.lemmas.Result.{err_from_is_err_and}
use Rattle.ox_bytes.specs.Reading.{times}
use Rattle.ox_block.specs.Reading.{tx_at}
use Rattle.ox_bytes.proofs.TimesLoop.{goes_on, ends, is_done}
use Rattle.ox_block.proofs.reading.txs_times.Goals as goal

pub returns-in_err-tx : goal.returns-in_err-tx
returns-in_err-tx c =
    let p = err_from_is_err_and c.from_residual-in_err-tx.result c.from_residual-in_err-tx.ensures.1 in
    rw (p.1, p.2) (ends tx_at c.in_err-tx.field-0.0 c.loop.txs.items c.args.count c.loop.counter c.loop.rest.now (times tx_at c.args.count c.args.bytes.now) c.loop-test.true c.in_err-tx.ensures c.loop.invariant)

pub loop-preserved : goal.loop-preserved
loop-preserved c =
    rw c.in_ok-push.ensures.items (goes_on tx_at c.loop.txs.items c.args.count c.loop.counter c.loop.rest.now c.in_ok-tx.tx c.in_ok-tx.after.now (times tx_at c.args.count c.args.bytes.now) c.loop-test.true c.in_ok-tx.ensures c.loop.invariant)

pub returns : goal.returns
returns c = is_done tx_at c.loop.txs.items c.args.count c.loop.counter c.loop.rest.now (times tx_at c.args.count c.args.bytes.now) c.loop-test.false c.loop.invariant
