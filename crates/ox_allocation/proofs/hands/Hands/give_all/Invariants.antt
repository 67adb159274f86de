use Rattle.std.proofs.Common.{◌≡◌, length}
use Rattle.std.specs.List.Sorted.{IsStrictlySortedBy}
use Rattle.ox_allocation.specs.Balances.{id_cmp, ids_of}
use Rattle.ox_allocation.specs.Dealing.{gifts_for, with_gifts}
use Rattle.ox_allocation.proofs.Rests.{IsHanding}
use Rattle.ox_allocation.proofs.hands.Hands.give_all.Given as goal

-- where the ids rise, as taking the first out says
abbrev pub invariant-loop-id : goal.invariant-loop-id
invariant-loop-id l = record {
  outputs : l.self.outputs ≡ l.initial.self.outputs;
  handing : IsStrictlySortedBy id_cmp (ids_of l.runes) → IsHanding l.initial.self.outputs l.place (with_gifts l.initial.self.outputs l.initial.self.hands (gifts_for l.place l.initial.runes)) l.runes l.self.hands;
}

abbrev pub decreases-loop-id : goal.decreases-loop-id
decreases-loop-id l = length l.runes
