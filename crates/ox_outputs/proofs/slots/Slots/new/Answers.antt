use Rattle.std.proofs.Common.{◌≡◌, inr, [], ◌∷◌, rules}
use Rattle.ox_block.specs.declared.block.OutPoint.{OutPoint}
use Rattle.ox_outputs.specs.Slots.{SlotList}
use Rattle.ox_outputs.proofs.PlaceLemmas.{IsNowhere}
use Rattle.ox_outputs.proofs.slots.Slots.new.Goals as goal

nowhere : (slots : SlotList) → slots ≡ [] → (at : OutPoint) → IsNowhere slots at
nowhere [] is at p found = absurd (cc found)
nowhere (e ∷ slots) is at p found = absurd (cc is)

pub invariant_of-result : goal.invariant_of-result
invariant_of-result c =
    let none = nowhere c.nothing_held.result.slots (search rules) in
    record {
      among = λ at p is. absurd (none at p is);
      others = λ at p is. absurd (c.new.ensures at p (inr is));
      apart = λ at p q is too. absurd (none at p is);
    }
