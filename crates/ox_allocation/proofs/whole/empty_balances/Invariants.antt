use Rattle.std.proofs.Common.{◌≡◌}
use Rattle.std.specs.Prelude.{[], replicate}
use Rattle.ox_allocation.proofs.whole.empty_balances.Given as goal

abbrev pub invariant-loop : goal.invariant-loop
invariant-loop l = l.all.items ≡ replicate l.counter []
