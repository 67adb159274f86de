use Rattle.std.proofs.Common.{drop}
use Rattle.ox_allocation.specs.Dealing.{with_all}
use Rattle.ox_allocation.proofs.Rests.{IsBurning}
use Rattle.ox_held.proofs.held.join.Given as goal

abbrev pub invariant-loop-id : goal.invariant-loop-id
invariant-loop-id l = IsBurning (with_all l.fn.pool l.fn.balances) (drop l.id-index l.balances) l.pool
