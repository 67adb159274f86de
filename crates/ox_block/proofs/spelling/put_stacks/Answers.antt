use Rattle.ox_block.proofs.Laws.{each_stack}
use Rattle.ox_block.proofs.ItemsInTurn.{run_none, run_on, run_all}
use Rattle.ox_block.proofs.spelling.put_stacks.Goals as goal

pub loop-spent-init : goal.loop-spent-init
loop-spent-init g c = run_none g.S.Sink.holds c.args.sink.now

pub loop-spent-preserved : goal.loop-spent-preserved
loop-spent-preserved g c =
    run_on g.S.Sink.holds each_stack c.args.items.now c.loop-spent.spent-index c.spent-item.result _ _ _ c.loop-spent-test.true c.spent-item.is c.loop-spent.invariant c.in_ok-put_stack.ensures

pub returns : goal.returns
returns g c = run_all g.S.Sink.holds each_stack c.args.items.now c.loop-spent.spent-index _ _ c.loop-spent-test.false c.loop-spent.invariant
