use Rattle.ox_block.specs.Spelling.{output}
use Rattle.ox_block.proofs.ItemsInTurn.{run_none, run_on, run_all}
use Rattle.ox_block.proofs.spelling.put_output_run.Goals as goal

pub loop-made-init : goal.loop-made-init
loop-made-init g c = run_none g.S.Sink.holds c.args.sink.now

pub loop-made-preserved : goal.loop-made-preserved
loop-made-preserved g c =
    run_on g.S.Sink.holds output c.args.items.now c.loop-made.made-index c.made-item.result _ _ _ c.loop-made-test.true c.made-item.is c.loop-made.invariant c.in_ok-put_output.ensures

pub returns : goal.returns
returns g c = run_all g.S.Sink.holds output c.args.items.now c.loop-made.made-index _ _ c.loop-made-test.false c.loop-made.invariant
