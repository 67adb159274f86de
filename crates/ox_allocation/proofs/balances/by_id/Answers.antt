use Rattle.ox_allocation.proofs.Gathering.{put_all, put_fits, put_on}
use Rattle.ox_allocation.proofs.balances.by_id.Goals as goal

pub add-requires : goal.add-requires
add-requires c = put_fits c.args.runes.now c.loop-id.amounts c.loop-id.id-index _ c.loop-id-test.true c.loop-id.invariant

pub loop-id-preserved : goal.loop-id-preserved
loop-id-preserved c = put_on c.args.runes.now c.loop-id.amounts c.add.new.self c.loop-id.id-index _ c.loop-id-test.true c.loop-id.invariant c.in_ok-add.ensures.ok

pub returns : goal.returns
returns c = put_all c.args.runes.now c.loop-id.amounts c.loop-id.id-index c.loop-id-test.false c.requires.lawful c.loop-id.invariant
