use Rattle.std.proofs.Common.{◌≡◌}
use Rattle.std.specs.Prelude.{[], replicate}
use Rattle.ox_allocation.proofs.hands.Hands.empty.Given as goal

abbrev pub invariant-loop : goal.invariant-loop
invariant-loop l = l.given.items ≡ replicate l.counter []
