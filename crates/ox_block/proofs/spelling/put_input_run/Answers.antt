use Rattle.ox_block.specs.Spelling.{input}
use Rattle.ox_block.proofs.ItemsInTurn.{run_none, run_on, run_all}
use Rattle.ox_block.proofs.spelling.put_input_run.Goals as goal

pub loop-spent-init : goal.loop-spent-init
loop-spent-init g c = run_none g.S.Sink.holds c.args.sink.now

pub loop-spent-preserved : goal.loop-spent-preserved
loop-spent-preserved g c =
    run_on g.S.Sink.holds input c.args.items.now c.loop-spent.spent-index c.spent-item.result _ _ _ c.loop-spent-test.true c.spent-item.is c.loop-spent.invariant c.in_ok-put_input.ensures

pub returns : goal.returns
returns g c = run_all g.S.Sink.holds input c.args.items.now c.loop-spent.spent-index _ _ c.loop-spent-test.false c.loop-spent.invariant
