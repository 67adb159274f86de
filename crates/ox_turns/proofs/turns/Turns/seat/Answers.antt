use Rattle.std.proofs.Common.{◌∙◌, ◌<◌, ap, length, set, subst, sym, List, Option, Some}
use Rattle.ox_turns.specs.Follows.{Holds}
use Rattle.ox_turns.specs.Places.{Places}
use Rattle.ox_turns.specs.declared.slot.Slot.{Slot}
use Rattle.ox_turns.proofs.Rotating.{ready_new, ready_set}
use Rattle.ox_turns.proofs.turns.Turns.seat.Goals as goal

pub invariant_of-self : goal.invariant_of-self
invariant_of-self c =
    let at = c.in-Some.at in
    let lowest = c.in-Some.ensures in
    let inside : at < length c.self.inside.slots.items = subst (λ (p : Places). at < length p.slots) (sym c.self.view_is) lowest.0 in
    let all = ready_set c.self.inside.slots.items at (Some c.new.result) inside c.self.invariant.3 (λ (a : Slot) e. ready_new c.new.result a c.new.ensures.session e) in
    (c.put.ensures.len ∙ c.self.invariant.0, c.self.invariant.1, c.self.invariant.2, λ i a held. all i a (subst (λ (l : List (Option Slot)). Holds l i a) c.put.ensures.items held))

pub returns-in-Some-clause-seated : goal.returns-in-Some-clause-seated
returns-in-Some-clause-seated c = record {
  at = c.in-Some.at;
  lowest = c.in-Some.ensures;
  slot = c.new.result;
  numbered = c.new.ensures.channel;
  by_door = c.new.ensures.door;
  silent = c.new.ensures.session;
  seated = c.put.ensures.items ∙ ap (λ (p : Places). set p.slots c.in-Some.at (Some c.new.result)) c.self.view_is;
}
