use Rattle.std.proofs.Common.{◌∙◌, ap, refl, subst, sym}
use Rattle.std.specs.FinMap as map
use Rattle.std.specs.Option.{option_map, option_and_then}
use Rattle.std.specs.Prelude.{IsSome}
use Rattle.ox_outputs.specs.Slots.{Slot, SlotList, outpoint_at, rows_of, slot_at, unless_empty}
use Rattle.ox_outputs.proofs.PlaceLemmas.{get-at_place, removed, rows_same, placed_less, stays}
use Rattle.ox_outputs.proofs.SlotLemmas.{empty_slot}
use Rattle.ox_outputs.proofs.slots.Slots.tidy.Goals as goal

pub vacate-requires : goal.vacate-requires
vacate-requires c =
    let slot = empty_slot c.self.inside.held.slots c.args.place c.in-Some.at c.in-Some.ensures in
    subst IsSome (sym slot) refl

pub invariant_of-self : goal.invariant_of-self
invariant_of-self c =
    let held = c.self.inside.held in
    let slot = empty_slot held.slots c.args.place c.in-Some.at c.in-Some.ensures in
    let here = ap (option_map (λ (s : Slot). s.at)) slot in
    placed_less c.self.inside.places c.remove.new.self held c.vacate.new.held c.args.place c.in-Some.at c.self.invariant here c.vacate.ensures c.remove.ensures.left c.remove.ensures.others

pub returns-in-Some-clause-rows : goal.returns-in-Some-clause-rows
returns-in-Some-clause-rows c =
    let held = c.self.inside.held in
    let slot = empty_slot held.slots c.args.place c.in-Some.at c.in-Some.ensures in
    let here = ap (option_map (λ (s : Slot). s.at)) slot in
    let change = removed held c.vacate.new.held c.args.place c.in-Some.at c.self.invariant.apart here c.vacate.ensures in
    rows_same change (get-at_place held.slots c.args.place c.in-Some.at c.self.invariant.apart here ∙ ap (option_and_then (λ (s : Slot). s.row)) slot) ∙ ap rows_of c.self.view_is

pub returns-in-Some-clause-filled : goal.returns-in-Some-clause-filled
returns-in-Some-clause-filled c =
    let held = c.self.inside.held in
    let slot = empty_slot held.slots c.args.place c.in-Some.at c.in-Some.ensures in
    λ p at r is there. stays held c.vacate.new.held c.args.place p at r c.self.invariant.apart (ap (option_and_then (λ (s : Slot). s.row)) slot) c.vacate.ensures
    (ap (λ (l : SlotList). outpoint_at l p) c.self.view_is ∙ is) (ap (λ (l : SlotList). map.get (rows_of l) at) c.self.view_is ∙ there)

pub returns-in-Some-clause-here : goal.returns-in-Some-clause-here
returns-in-Some-clause-here c =
    let slot = empty_slot c.self.inside.held.slots c.args.place c.in-Some.at c.in-Some.ensures in
    c.vacate.ensures.changed ∙ sym (ap unless_empty (sym (ap (λ (l : SlotList). slot_at l c.args.place) c.self.view_is) ∙ slot))
