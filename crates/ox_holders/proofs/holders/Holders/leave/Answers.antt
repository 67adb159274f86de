use Rattle.ox_holders.proofs.Steps.{out-none, leave_next}
use Rattle.ox_holders.proofs.holders.Holders.leave.Goals as goal

pub loop-at-init : goal.loop-at-init
loop-at-init c = λ script place. out-none _ script place

pub loop-at-preserved : goal.loop-at-preserved
loop-at-preserved c = λ script place.
    leave_next _ _ _ c.args.rows.now c.loop-at.at-index c.loop-at-item.result script place c.loop-at-test.true c.loop-at-item.is
    (c.in_ok-take.ensures script place) (c.loop-at.invariant script place)
