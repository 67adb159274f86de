use Rattle.std.proofs.Common.{◌+◌, ℕ, List, Option, map}
use Rattle.std.specs.Map.Iter.{deref}
use Rattle.ox_runestone.specs.declared.stone.RuneId.{RuneId}
use Rattle.ox_allocation.specs.Balances.{Balance}
use Rattle.ox_sound.specs.Amounts.{AreAmounts, sum_held}
use Rattle.ox_sound.proofs.amounts.add_all.Given as goal

abbrev pub invariant-loop-balances : goal.invariant-loop-balances
invariant-loop-balances l =
    (there : RuneId → Option ℕ) (held : RuneId → ℕ) → AreAmounts l.initial.amounts there held → AreAmounts l.amounts there (λ id. held id + sum_held (map (deref {X = List Balance}) l.yielded) id)
