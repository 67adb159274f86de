use Rattle.ox_bytes.specs.Reading.{times}
use Rattle.ox_bytes.proofs.TimesLoop.{goes_on}
use Rattle.ox_rows.specs.RowReading.{change_at}
use Rattle.ox_checkpoint.proofs.ReadLemmas.{all_read, ok_from, stops}
use Rattle.ox_checkpoint.proofs.read.so_many_of.Goals as goal

pub returns-in_default : goal.returns-in_default
returns-in_default c =
    stops c.loop.changes c.args.count c.loop.counter c.loop.rest.now (times change_at c.args.count c.args.bytes.now) c.loop-test.true (rw c.in_default.is at c.in_ok-change.ensures) c.loop.invariant

pub loop-preserved : goal.loop-preserved
loop-preserved c =
    rw c.in_ok-push.ensures.ok (goes_on change_at c.loop.changes c.args.count c.loop.counter c.loop.rest.now c.in-Some.change c.in-Some.after.now (times change_at c.args.count c.args.bytes.now) c.loop-test.true
    (ok_from (change_at c.loop.rest.now) (c.in-Some.change, c.in-Some.after.now) (rw c.in-Some.is at c.in_ok-change.ensures)) c.loop.invariant)

pub returns : goal.returns
returns c = all_read c.loop.changes c.args.count c.loop.counter c.loop.rest.now (times change_at c.args.count c.args.bytes.now) c.loop-test.false c.loop.invariant
