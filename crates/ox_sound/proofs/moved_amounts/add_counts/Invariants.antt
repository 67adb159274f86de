use Rattle.std.proofs.Common.{◌≡◌, ◌+◌, take}
use Rattle.ox_runestone.specs.declared.stone.RuneId.{RuneId}
use Rattle.ox_sound.specs.Amounts.{amount_at}
use Rattle.ox_sound.specs.Keeps.{burned_more, minted_more, sum_counted}
use Rattle.ox_sound.proofs.moved_amounts.add_counts.Given as goal

-- what was added so far
abbrev pub invariant-loop-change : goal.invariant-loop-change
invariant-loop-change l = record {
  coming : (other : RuneId) → amount_at l.coming other ≡ amount_at l.initial.coming other + sum_counted burned_more l.runes (take l.change-index l.counts) other;
  going : (other : RuneId) → amount_at l.going other ≡ amount_at l.initial.going other + sum_counted minted_more l.runes (take l.change-index l.counts) other;
}
