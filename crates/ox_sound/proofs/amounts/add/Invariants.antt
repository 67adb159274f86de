use Rattle.std.proofs.Common.{◌+◌, ℕ, Option, take}
use Rattle.ox_runestone.specs.declared.stone.RuneId.{RuneId}
use Rattle.ox_sound.specs.Amounts.{AreAmounts, sum_of}
use Rattle.ox_sound.proofs.amounts.add.Given as goal

abbrev pub invariant-loop-id : goal.invariant-loop-id
invariant-loop-id l =
    (there : RuneId → Option ℕ) (held : RuneId → ℕ) → AreAmounts l.initial.amounts there held → AreAmounts l.amounts there (λ id. held id + sum_of (take l.id-index l.balances) id)
