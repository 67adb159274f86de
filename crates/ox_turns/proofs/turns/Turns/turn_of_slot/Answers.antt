use Rattle.std.proofs.Common.{◌≡◌, ◌∙◌, ◌<◌, ◌++◌, Bool, true, false, List, ap, sym, subst, refl, set, length, None, Some, Option}
use Rattle.std.specs.Prelude.{Ok, Err}
use Rattle.ox_links.specs.Rotation.{link_of}
use Rattle.ox_links.specs.Serving.{served_by}
use Rattle.ox_turns.specs.Follows.{Holds}
use Rattle.ox_turns.specs.Places.{Places}
use Rattle.ox_turns.specs.Turn.{IsGoing, IsReady, LinkCut, LinkTurns, TurnOf}
use Rattle.ox_turns.specs.declared.slot.Slot.{Slot}
use Rattle.ox_turns.specs.declared.turns.TurnFault.TheVariants.{DiskFault}
use Rattle.ox_outside.proofs.Counts.{stops_as}
use Rattle.ox_turns.proofs.Promised.{link_promises, slot_survives}
use Rattle.ox_turns.proofs.Rotating.{ready_set, set_again, slot_seen, within_some}
use Rattle.ox_turns.proofs.Turned.{going_of, fronts_since, slot_turned}
use Rattle.ox_turns.proofs.turns.Turns.turn_of_slot.Goals as goal

pub step_link-requires-clause-ready : goal.step_link-requires-clause-ready
step_link-requires-clause-ready g c =
    let seen = slot_seen _ _ c.self.view_is c.args.at c.index_mut.result.now c.in-Some.slot c.requires.held c.index_mut.ensures.value c.in-Some.is in
    c.self.invariant.3 c.args.at c.in-Some.slot seen.1

pub step_link-requires-clause-goes_on : goal.step_link-requires-clause-goes_on
step_link-requires-clause-goes_on g c x is =
    let seen = slot_seen _ _ c.self.view_is c.args.at c.index_mut.result.now c.in-Some.slot c.requires.held c.index_mut.ensures.value c.in-Some.is in
    let some = c.requires.may.follows x is in
    subst (IsGoing c.in-Some.slot.channel c.in-Some.slot.session) (sym some.2) (going_of g.D.Desk.server g.met.D.Desk.http some.0 some.1 c.args.self.now.slots (g.D.Desk.state c.args.desk.now) some.3 c.args.at c.in-Some.slot seen.2)

pub invariant_of-self : goal.invariant_of-self
invariant_of-self g c =
    let inside : c.args.at < length c.self.inside.slots.items = subst (λ (p : Places). c.args.at < length p.slots) (sym c.self.view_is) (within_some c.args.self.now.slots c.args.at c.requires.held) in
    let all = ready_set c.self.inside.slots.items c.args.at None inside c.self.invariant.3 (λ (a : Slot) e. absurd (let f : None ≡ Some a = e in let no : ⊥ = cc f in no)) in
    let is = c.put.ensures.items ∙ set_again c.self.inside.slots.items c.args.at (Some c.step_link.new.slot) None in
    (c.put.ensures.len ∙ c.self.invariant.0, c.self.invariant.1, c.self.invariant.2, λ i a h. all i a (subst (λ (l : List (Option Slot)). Holds l i a) is h))

pub invariant_of-self-in-Err : goal.invariant_of-self-in-Err
invariant_of-self-in-Err g c =
    let inside : c.args.at < length c.self.inside.slots.items = subst (λ (p : Places). c.args.at < length p.slots) (sym c.self.view_is) (within_some c.args.self.now.slots c.args.at c.requires.held) in
    let all = ready_set c.self.inside.slots.items c.args.at None inside c.self.invariant.3 (λ (a : Slot) e. absurd (let f : None ≡ Some a = e in let no : ⊥ = cc f in no)) in
    let is = c.put-in-Err.ensures.items ∙ set_again c.self.inside.slots.items c.args.at (Some c.step_link.new.slot) None in
    (c.put-in-Err.ensures.len ∙ c.self.invariant.0, c.self.invariant.1, c.self.invariant.2, λ i a h. all i a (subst (λ (l : List (Option Slot)). Holds l i a) is h))

pub invariant_of-self-in-Ok-false : goal.invariant_of-self-in-Ok-false
invariant_of-self-in-Ok-false g c =
    let inside : c.args.at < length c.self.inside.slots.items = subst (λ (p : Places). c.args.at < length p.slots) (sym c.self.view_is) (within_some c.args.self.now.slots c.args.at c.requires.held) in
    let ready = subst (λ (b : Bool). b ≡ false → IsReady c.step_link.new.slot.session) c.in-Ok-false.field-0-test c.in-Ok-false.ensures.ready refl in
    let all = ready_set c.self.inside.slots.items c.args.at (Some c.step_link.new.slot) inside c.self.invariant.3 (λ (a : Slot) e. let f : c.step_link.new.slot ≡ a = cc e in subst (λ (s : Slot). IsReady s.session) f ready) in
    (c.self.invariant.0, c.self.invariant.1, c.self.invariant.2, all)

pub returns-in-Ok-true : goal.returns-in-Ok-true
returns-in-Ok-true g c =
    let seen = slot_seen _ _ c.self.view_is c.args.at c.index_mut.result.now c.in-Some.slot c.requires.held c.index_mut.ensures.value c.in-Some.is in
    record {
      turn = λ start since is follows slot at_slot.
          let made = c.in-Ok-true.ensures.turn (start.log ++ since) (served_by g.D.Desk.server start.state since) is (follows.links c.args.at c.in-Some.slot seen.2) (fronts_since g.D.Desk.server g.met.D.Desk.http start since c.args.self.now.slots (g.D.Desk.state c.args.desk.now) follows) follows.state in
          let made = subst (λ (b : Bool). LinkTurns g.S.Site g.D.Desk.server g.D.Desk.moved g.D.Desk.same (served_by g.D.Desk.server start.state since) (start.log ++ since) c.in-Some.slot.channel c.in-Some.slot.door b c.args.site.now c.step_link.new.site c.step_link.new.slot.session (g.D.Desk.state c.step_link.new.desk) c.args.desk.now c.step_link.new.desk) c.in-Ok-true.field-0-test made in
          let whose : c.in-Some.slot ≡ slot = (let e : Some c.in-Some.slot ≡ Some slot = sym seen.2 ∙ at_slot in cc e) in
          subst (λ (s : Slot). TurnOf g.S.Site g.D.Desk.server g.D.Desk.moved g.D.Desk.same start since (link_of s.channel) c.put.new.slots.items c.args.site.now c.step_link.new.site (g.D.Desk.state c.step_link.new.desk) c.args.desk.now c.step_link.new.desk) whose
          (slot_turned g.D.Desk.server g.met.D.Desk.http start since c.args.self.now.slots (g.D.Desk.state c.args.desk.now) follows g.S.Site g.D.Desk.moved g.D.Desk.same c.args.at c.in-Some.slot seen.2 true c.step_link.new.slot c.in-Ok-true.ensures.keeps.channel c.in-Ok-true.ensures.keeps.door c.put.new.slots.items
          (c.put.ensures.items ∙ set_again c.self.inside.slots.items c.args.at (Some c.step_link.new.slot) None ∙ ap (λ (p : Places). set p.slots c.args.at None) c.self.view_is) c.args.site.now c.step_link.new.site (g.D.Desk.state c.step_link.new.desk) c.args.desk.now c.step_link.new.desk made);
      cut = λ start since is follows slot at_slot. tt;
      promises = link_promises g.S.Site g.D.Desk c.args.self.now.slots c.args.site.now c.step_link.new.site (Ok (tt {0})) c.args.desk.now c.step_link.new.desk
          (slot_survives g.S.Site g.D.Desk c.args.self.now.slots c.args.site.now c.step_link.new.site g.met.D.Desk.http c.args.at c.in-Some.slot seen.2 c.args.desk.now c.in-Ok-true.ensures.survives)
          c.in-Ok-true.ensures.untold c.in-Ok-true.ensures.keeps.rests c.in-Ok-true.ensures.keeps.asked tt c.in-Ok-true.ensures.keeps.failed
          (stops_as _ ⊥ ⊥ _ ⊥ ⊥ _ _ (λ failed. absurd failed) (λ no. no) (λ no. no) c.in-Ok-true.ensures.keeps.counted) c.in-Ok-true.ensures.keeps.calls;
      place = ap (λ (p : Places). p.place) c.self.view_is;
      fault = tt;
    }

pub returns-in-Ok-false : goal.returns-in-Ok-false
returns-in-Ok-false g c =
    let seen = slot_seen _ _ c.self.view_is c.args.at c.index_mut.result.now c.in-Some.slot c.requires.held c.index_mut.ensures.value c.in-Some.is in
    record {
      turn = λ start since is follows slot at_slot.
          let made = c.in-Ok-false.ensures.turn (start.log ++ since) (served_by g.D.Desk.server start.state since) is (follows.links c.args.at c.in-Some.slot seen.2) (fronts_since g.D.Desk.server g.met.D.Desk.http start since c.args.self.now.slots (g.D.Desk.state c.args.desk.now) follows) follows.state in
          let made = subst (λ (b : Bool). LinkTurns g.S.Site g.D.Desk.server g.D.Desk.moved g.D.Desk.same (served_by g.D.Desk.server start.state since) (start.log ++ since) c.in-Some.slot.channel c.in-Some.slot.door b c.args.site.now c.step_link.new.site c.step_link.new.slot.session (g.D.Desk.state c.step_link.new.desk) c.args.desk.now c.step_link.new.desk) c.in-Ok-false.field-0-test made in
          let whose : c.in-Some.slot ≡ slot = (let e : Some c.in-Some.slot ≡ Some slot = sym seen.2 ∙ at_slot in cc e) in
          subst (λ (s : Slot). TurnOf g.S.Site g.D.Desk.server g.D.Desk.moved g.D.Desk.same start since (link_of s.channel) (set c.self.inside.slots.items c.args.at (Some c.step_link.new.slot)) c.args.site.now c.step_link.new.site (g.D.Desk.state c.step_link.new.desk) c.args.desk.now c.step_link.new.desk) whose
          (slot_turned g.D.Desk.server g.met.D.Desk.http start since c.args.self.now.slots (g.D.Desk.state c.args.desk.now) follows g.S.Site g.D.Desk.moved g.D.Desk.same c.args.at c.in-Some.slot seen.2 false c.step_link.new.slot c.in-Ok-false.ensures.keeps.channel c.in-Ok-false.ensures.keeps.door (set c.self.inside.slots.items c.args.at (Some c.step_link.new.slot))
          (ap (λ (p : Places). set p.slots c.args.at (Some c.step_link.new.slot)) c.self.view_is) c.args.site.now c.step_link.new.site (g.D.Desk.state c.step_link.new.desk) c.args.desk.now c.step_link.new.desk made);
      cut = λ start since is follows slot at_slot. tt;
      promises = link_promises g.S.Site g.D.Desk c.args.self.now.slots c.args.site.now c.step_link.new.site (Ok (tt {0})) c.args.desk.now c.step_link.new.desk
          (slot_survives g.S.Site g.D.Desk c.args.self.now.slots c.args.site.now c.step_link.new.site g.met.D.Desk.http c.args.at c.in-Some.slot seen.2 c.args.desk.now c.in-Ok-false.ensures.survives)
          c.in-Ok-false.ensures.untold c.in-Ok-false.ensures.keeps.rests c.in-Ok-false.ensures.keeps.asked tt c.in-Ok-false.ensures.keeps.failed
          (stops_as _ ⊥ ⊥ _ ⊥ ⊥ _ _ (λ failed. absurd failed) (λ no. no) (λ no. no) c.in-Ok-false.ensures.keeps.counted) c.in-Ok-false.ensures.keeps.calls;
      place = ap (λ (p : Places). p.place) c.self.view_is;
      fault = tt;
    }

pub returns-in-Err : goal.returns-in-Err
returns-in-Err g c =
    let seen = slot_seen _ _ c.self.view_is c.args.at c.index_mut.result.now c.in-Some.slot c.requires.held c.index_mut.ensures.value c.in-Some.is in
    record {
      turn = λ start since is follows slot at_slot. tt;
      cut = λ start since is follows slot at_slot.
          let cut = c.in-Err.ensures.cut (start.log ++ since) (served_by g.D.Desk.server start.state since) is (follows.links c.args.at c.in-Some.slot seen.2) (fronts_since g.D.Desk.server g.met.D.Desk.http start since c.args.self.now.slots (g.D.Desk.state c.args.desk.now) follows) in
          let whose : c.in-Some.slot ≡ slot = (let e : Some c.in-Some.slot ≡ Some slot = sym seen.2 ∙ at_slot in cc e) in
          subst (λ (s : Slot). LinkCut g.D.Desk.server (served_by g.D.Desk.server start.state since) (start.log ++ since) s.channel (g.S.Site.log c.step_link.new.site)) whose cut;
      promises = link_promises g.S.Site g.D.Desk c.args.self.now.slots c.args.site.now c.step_link.new.site (Err DiskFault) c.args.desk.now c.step_link.new.desk
          (slot_survives g.S.Site g.D.Desk c.args.self.now.slots c.args.site.now c.step_link.new.site g.met.D.Desk.http c.args.at c.in-Some.slot seen.2 c.args.desk.now c.in-Err.ensures.survives)
          c.in-Err.ensures.untold c.in-Err.ensures.keeps.rests c.in-Err.ensures.keeps.asked refl c.in-Err.ensures.keeps.failed
          (stops_as _ ⊥ ⊥ _ ⊥ ⊥ _ _ (λ failed. refl) (λ no. no) (λ no. no) c.in-Err.ensures.keeps.counted) c.in-Err.ensures.keeps.calls;
      place = ap (λ (p : Places). p.place) c.self.view_is;
      fault = refl;
    }
