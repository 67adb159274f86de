use Rattle.std.proofs.Common.{◌≡◌, length}
use Rattle.std.specs.List.Sorted.{IsStrictlySortedBy}
use Rattle.ox_allocation.specs.Balances.{id_cmp, ids_of}
use Rattle.ox_allocation.specs.Dealing.{with_all}
use Rattle.ox_allocation.proofs.Rests.{IsBurning}
use Rattle.ox_allocation.proofs.hands.Hands.burn_all.Given as goal

-- where the ids rise, as taking the first out says
abbrev pub invariant-loop-id : goal.invariant-loop-id
invariant-loop-id l = record {
  burning : IsStrictlySortedBy id_cmp (ids_of l.runes) → IsBurning (with_all l.initial.self-inside.burned l.initial.runes) l.runes l.self-inside.burned;
  given : l.self-inside.given ≡ l.initial.self-inside.given;
  outputs : l.self-inside.outputs.now ≡ l.initial.self-inside.outputs.now;
}

abbrev pub decreases-loop-id : goal.decreases-loop-id
decreases-loop-id l = length l.runes
