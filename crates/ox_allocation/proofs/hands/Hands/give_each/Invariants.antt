use Rattle.std.proofs.Common.{◌≡◌, length}
use Rattle.ox_allocation.specs.Dealing.{owed_to, with_gifts}
use Rattle.ox_allocation.proofs.Owing.{IsPaying}
use Rattle.ox_allocation.proofs.hands.Hands.give_each.Given as goal

abbrev pub invariant-loop-id : goal.invariant-loop-id
invariant-loop-id l = record {
  outputs : l.self.outputs ≡ l.initial.self.outputs;
  paying : IsPaying l.initial.self.outputs (with_gifts l.initial.self.outputs l.initial.self.hands (owed_to l.places l.initial.runes)) (owed_to l.places l.runes) l.self.hands;
}

abbrev pub decreases-loop-id : goal.decreases-loop-id
decreases-loop-id l = length l.runes
