use Rattle.ox_block.specs.Spelling.{tx}
use Rattle.ox_block.proofs.ItemsInTurn.{run_none, run_on, run_all}
use Rattle.ox_block.proofs.spelling.put_tx_run.Goals as goal

pub loop-whole-init : goal.loop-whole-init
loop-whole-init g c = run_none g.S.Sink.holds c.args.sink.now

pub loop-whole-preserved : goal.loop-whole-preserved
loop-whole-preserved g c =
    run_on g.S.Sink.holds tx c.args.items.now c.loop-whole.whole-index c.whole-item.result _ _ _ c.loop-whole-test.true c.whole-item.is c.loop-whole.invariant c.in_ok-put_tx.ensures

pub returns : goal.returns
returns g c = run_all g.S.Sink.holds tx c.args.items.now c.loop-whole.whole-index _ _ c.loop-whole-test.false c.loop-whole.invariant
