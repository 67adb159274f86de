use Rattle.std.proofs.Common.{List}
use Rattle.ox_allocation.specs.Balances.{Balance}
use Rattle.ox_allocation.proofs.Handing.{moved_on}
use Rattle.ox_allocation.proofs.hands.balances_of.Goals as goal

pub loop-pool-preserved : goal.loop-pool-preserved
loop-pool-preserved c =
    moved_on {A = List Balance} c.loop-pool.balances c.loop-pool.pool-iterator.rest.items c.next.new.self.rest.items c.args.pools.items c.push.new.self c.in-Some.pool c.in_ok-into_balances.field-0
    c.in-Some.ensures.steps.0 c.in_ok-into_balances.ensures c.in_ok-push.ensures.ok c.loop-pool.invariant
