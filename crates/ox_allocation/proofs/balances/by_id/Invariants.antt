use Rattle.std.proofs.Common.{[], drop}
use Rattle.ox_allocation.specs.Dealing.{with_all}
use Rattle.ox_allocation.proofs.Rests.{IsBurning}
use Rattle.ox_allocation.proofs.balances.by_id.Given as goal

abbrev pub invariant-loop-id : goal.invariant-loop-id
invariant-loop-id l = IsBurning (with_all [] l.runes) (drop l.id-index l.runes) l.amounts
