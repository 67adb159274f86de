use Rattle.std.proofs.Common.{◌≡◌, ◌+◌, take}
use Rattle.ox_runestone.specs.declared.stone.RuneId.{RuneId}
use Rattle.ox_sound.specs.Amounts.{amount_at, sum_of}
use Rattle.ox_sound.proofs.moved_amounts.add_balances.Given as goal

-- what was added so far
abbrev pub invariant-loop-id : goal.invariant-loop-id
invariant-loop-id l = (other : RuneId) → amount_at l.sums other ≡ amount_at l.initial.sums other + sum_of (take l.id-index l.balances) other
