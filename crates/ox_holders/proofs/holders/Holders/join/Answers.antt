use Rattle.ox_holders.proofs.Steps.{in-none, join_next}
use Rattle.ox_holders.proofs.holders.Holders.join.Goals as goal

pub loop-at-init : goal.loop-at-init
loop-at-init c = λ script place. in-none _ script place

pub loop-at-preserved : goal.loop-at-preserved
loop-at-preserved c = λ script place.
    join_next _ _ _ c.args.rows.now c.loop-at.at-index c.loop-at-item.result script place c.loop-at-test.true c.loop-at-item.is
    (c.in_ok-put.ensures script place) (c.loop-at.invariant script place)
