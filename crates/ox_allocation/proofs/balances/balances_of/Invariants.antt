use Rattle.std.proofs.Common.{◌≡◌, ◌++◌, length}
use Rattle.ox_allocation.proofs.balances.balances_of.Given as goal

abbrev pub invariant-loop-balance : goal.invariant-loop-balance
invariant-loop-balance l = l.items.items ++ l.amounts ≡ l.fn.amounts

abbrev pub decreases-loop-balance : goal.decreases-loop-balance
decreases-loop-balance l = length l.amounts
