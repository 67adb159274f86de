use Rattle.std.proofs.Common.{◌≡◌, List, Option, arith, ap, length, subst}
use Rattle.ox_turns.specs.Follows.{Holds}
use Rattle.ox_turns.specs.declared.slot.Slot.{Slot}
use Rattle.ox_turns.proofs.Rotating.{none_held}
use Rattle.ox_turns.proofs.turns.Turns.new.Goals as goal

pub invariant_of-result : goal.invariant_of-result
invariant_of-result c =
    let items = c.in_ok-slots.ensures in
    let many : length c.in_ok-slots.slots.items ≡ 32 = ap length items in
    (omega (arith, many, c.in_ok-slots.slots.ok.0), omega arith, c.in_ok-room.ensures, λ i slot held. absurd (none_held 32 i slot (subst (λ (l : List (Option Slot)). Holds l i slot) items held)))
