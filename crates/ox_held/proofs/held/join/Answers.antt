use Rattle.ox_allocation.specs.Dealing.{with_all}
use Rattle.ox_ledger.proofs.HolderLemmas.{joins_all, joins_fit, joins_on}
use Rattle.ox_held.proofs.held.join.Goals as goal

pub add-requires : goal.add-requires
add-requires c = joins_fit (with_all c.args.pool.now c.args.balances.now) c.loop-id.pool c.args.balances.now c.loop-id.id-index _ c.loop-id-test.true c.loop-id.invariant

pub loop-id-preserved : goal.loop-id-preserved
loop-id-preserved c = joins_on (with_all c.args.pool.now c.args.balances.now) c.loop-id.pool c.add.new.self c.args.balances.now c.loop-id.id-index _ c.loop-id-test.true c.loop-id.invariant c.in_ok-add.ensures.ok

pub returns : goal.returns
returns c = joins_all c.args.pool.now c.loop-id.pool c.args.balances.now c.loop-id.id-index c.loop-id-test.false c.loop-id.invariant
