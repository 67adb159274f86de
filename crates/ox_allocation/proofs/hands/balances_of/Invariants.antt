use Rattle.std.proofs.Common.{◌≡◌, ◌++◌}
use Rattle.ox_allocation.proofs.hands.balances_of.Given as goal

abbrev pub invariant-loop-pool : goal.invariant-loop-pool
invariant-loop-pool l = l.balances ++ l.pool-iterator.rest.items ≡ l.fn.pools.items
