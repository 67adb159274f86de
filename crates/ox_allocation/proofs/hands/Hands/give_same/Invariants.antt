use Rattle.std.proofs.Common.{◌≡◌, ◌<◌, drop, length}
use Rattle.std.specs.List.{AllByRecursion}
use Rattle.ox_allocation.specs.Dealing.{same_to, with_gifts}
use Rattle.ox_allocation.proofs.Owing.{IsPaying}
use Rattle.ox_allocation.proofs.hands.Hands.give_same.Given as goal

abbrev pub invariant-loop-place : goal.invariant-loop-place
invariant-loop-place l = record {
  outputs : l.self.outputs ≡ l.initial.self.outputs;
  within : AllByRecursion (λ place. place < length l.initial.self.outputs) (drop l.place-index l.places);
  paying : IsPaying l.initial.self.outputs (with_gifts l.initial.self.outputs l.initial.self.hands (same_to l.id l.amount l.places)) (same_to l.id l.amount (drop l.place-index l.places)) l.self.hands;
}
