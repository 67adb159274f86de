use Rattle.std.proofs.Common.{◌≡◌, ◌+◌, take}
use Rattle.ox_runestone.specs.declared.stone.RuneId.{RuneId}
use Rattle.ox_sound.specs.Amounts.{amount_at}
use Rattle.ox_sound.specs.Keeps.{amount_placed}
use Rattle.ox_sound.proofs.moved_amounts.add_placed.Given as goal

-- what was added so far
abbrev pub invariant-loop-balances : goal.invariant-loop-balances
invariant-loop-balances l = (other : RuneId) → amount_at l.sums other ≡ amount_at l.initial.sums other + amount_placed (take l.balances-index l.rows) other
