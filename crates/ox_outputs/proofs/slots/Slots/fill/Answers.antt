use Rattle.std.proofs.Common.{rules, refl, ◌≡◌, ◌∙◌, ap, Some}
use Rattle.ox_outputs.specs.Slots.{Slot}
use Rattle.ox_outputs.specs.Slots.{SlotList, outpoint_at, put_slot, rows_of}
use Rattle.std.specs.Option.{option_map}
use Rattle.ox_outputs.proofs.AddedLemmas.{placed_more, placed_again}
use Rattle.ox_outputs.proofs.PlaceLemmas.{outpoint_here, outpoint_elsewhere, still_apart, IsNowhere, exchanged, made, given_back, row_with, rows_put, rows_alike, outpoints_stay, placed_same, found_so}
use Rattle.ox_outputs.proofs.slots.Slots.fill.Goals as goal

pub invariant_of-self : goal.invariant_of-self
invariant_of-self c =
    let held = c.self.inside.held in
    let new = c.exchange_in-earlier.new.held in
    placed_same c.self.inside.places held.slots new.slots c.self.invariant (outpoints_stay held new c.in-Some.place (Some c.args.row) c.exchange_in-earlier.ensures.updates)

pub returns-in-Some-clause-rows : goal.returns-in-Some-clause-rows
returns-in-Some-clause-rows c =
    let held = c.self.inside.held in
    let here = ap (λ (l : SlotList). outpoint_at l c.in-Some.place) c.self.view_is ∙ found_so (λ p. outpoint_at c.args.self.now p ≡ Some c.args.at) c.args.found c.in-Some.place c.requires.found c.in-Some.is in
    let change = exchanged held c.exchange_in-earlier.new.held c.in-Some.place c.args.at (Some c.args.row) c.self.invariant.apart here c.exchange_in-earlier.ensures.updates in
    rows_put change (Some c.args.row) (row_with held c.in-Some.place c.args.at (Some c.args.row) here)
    ∙ ap (λ (l : SlotList). put_slot (rows_of l) c.args.at (Some c.args.row)) c.self.view_is

pub returns-in-Ok-clause-rows : goal.returns-in-Ok-clause-rows
returns-in-Ok-clause-rows c =
    let held = c.self.inside.held in
    let none : IsNowhere held.slots c.args.at = search rules in
    let slot : Slot = record { at = c.args.at; row = Some c.args.row } in
    let change = made held c.give_out.new.held c.in_ok-place.place slot c.self.invariant.apart none c.in_ok-place.ensures.free c.in_ok-place.ensures.updates in
    rows_put change (Some c.args.row) refl
    ∙ ap (λ (l : SlotList). put_slot (rows_of l) c.args.at (Some c.args.row)) c.self.view_is

pub returns-in-Some-take_back-clause-err : goal.returns-in-Some-take_back-clause-err
returns-in-Some-take_back-clause-err c =
    let held = c.self.inside.held in
    let same = given_back held c.give_out.new.held c.take_back.new.held c.in_ok-place.place _ c.in_ok-place.ensures.free c.in_ok-place.ensures.updates c.take_back.ensures.updates in
    rows_alike held c.take_back.new.held c.self.invariant.apart same ∙ ap rows_of c.self.view_is

pub invariant_of-self-in-Ok : goal.invariant_of-self-in-Ok
invariant_of-self-in-Ok c =
    let held = c.self.inside.held in
    let none : IsNowhere held.slots c.args.at = search rules in
    let slot : Slot = record { at = c.args.at; row = Some c.args.row } in
    let change = made held c.give_out.new.held c.in_ok-place.place slot c.self.invariant.apart none c.in_ok-place.ensures.free c.in_ok-place.ensures.updates in
    placed_more c.self.inside.places c.add.new.self held.slots c.give_out.new.held.slots c.in_ok-place.place c.args.at c.self.invariant none
    (ap (option_map (λ (s : Slot). s.at)) c.in_ok-place.ensures.free) (outpoint_here change) (outpoint_elsewhere change) (still_apart change)
    c.in-Ok.ensures.added c.add.ensures.before c.add.ensures.others

pub invariant_of-self-in-Err : goal.invariant_of-self-in-Err
invariant_of-self-in-Err c =
    let held = c.self.inside.held in
    let same = given_back held c.give_out.new.held c.take_back.new.held c.in_ok-place.place _ c.in_ok-place.ensures.free c.in_ok-place.ensures.updates c.take_back.ensures.updates in
    placed_again c.self.inside.places c.add.new.self held.slots c.take_back.new.held.slots c.self.invariant c.in-Err.ensures.err (λ p. ap (option_map (λ (s : Slot). s.at)) (same p))
