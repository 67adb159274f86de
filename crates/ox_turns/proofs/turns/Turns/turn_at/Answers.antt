use Rattle.std.proofs.Common.{◌≤◌, sym, subst}
use Rattle.ox_outside.specs.Crash.{Remains}
use Rattle.ox_links.specs.Rotation.{Who}
use Rattle.ox_turns.specs.Turn.{CutOf, TurnOf}
use Rattle.ox_turns.proofs.Promised.{door_promises}
use Rattle.ox_turns.proofs.Rounds.{cut_link, cut_none, door_left, door_made, either_way, held_at, is_free_at, on_err, on_ok, quiet_left, whose_door, whose_slot}
use Rattle.ox_turns.proofs.turns.Turns.turn_at.Goals as goal

pub turn_of_slot-requires-clause-held : goal.turn_of_slot-requires-clause-held
turn_of_slot-requires-clause-held g c =
    let le : 2 ≤ c.args.at = c.if-at-lt2.false in
    held_at c.args.self.now.slots c.args.at le c.requires.on

pub returns-then-at-lt2 : goal.returns-then-at-lt2
returns-then-at-lt2 g c =
    let old = c.args.site.now in
    let new = c.turn_of_door.new.site in
    let desk = c.args.desk.now in
    let state = g.D.Desk.state desk in
    let server = g.D.Desk.server in
    let door = c.door_at.result in
    let slots = c.args.self.now.slots in
    let door_ensures = c.turn_of_door.ensures in
    record {
      turn = λ start since is follows who at_who.
          let whose = whose_door slots c.args.at who door c.if-at-lt2.true c.door_at.ensures.public c.door_at.ensures.operator at_who in
          on_ok c.turn_of_door.result _ _ (λ comes.
          subst (λ (w : Who). TurnOf g.S.Site server g.D.Desk.moved g.D.Desk.same start since w c.turn_of_door.new.self.slots old new state desk desk) (sym whose)
          (door_made g.S.Site server g.met.D.Desk.http start since slots state follows g.D.Desk.moved g.D.Desk.same door c.turn_of_door.new.self.slots old new desk is comes))
          door_ensures.comes;
      cut = λ start since is follows who at_who.
          on_err c.turn_of_door.result _ _ (cut_none server start since who (g.S.Site.log old) (g.S.Site.log new) follows.shown is) door_ensures.fails;
      promises = door_promises g.S.Site g.D.Desk slots old new c.turn_of_door.result door c.turn_of_door.new.self.slots desk
          (λ start since is follows told.
          let stood : (r : Remains) → g.S.Site.may_leave old r → g.D.Desk.stands r.files state = λ r left. g.met.D.Desk.rests_stands desk old told c.requires.may.rests r left in
          either_way c.turn_of_door.result _ _ _
          (door_left g.S.Site server g.met.D.Desk.http start since slots state follows g.D.Desk.stands g.met.S.Site.only_now g.met.S.Site.logs_now old new is stood door_ensures.files door_ensures.call door c.turn_of_door.new.self.slots)
          (quiet_left g.S.Site server g.met.D.Desk.http start since slots state follows g.D.Desk.stands g.met.S.Site.only_now g.met.S.Site.logs_now old new is stood door_ensures.files door_ensures.call)
          door_ensures.comes door_ensures.fails)
          (g.met.D.Desk.rests_stays desk old new door_ensures.call.as_told door_ensures.files c.requires.may.rests)
          door_ensures.comes door_ensures.fails door_ensures.fault door_ensures.failed door_ensures.counted door_ensures.call;
      place = door_ensures.place;
    }

pub returns-else-at-lt2 : goal.returns-else-at-lt2
returns-else-at-lt2 g c =
    let le : 2 ≤ c.args.at = c.if-at-lt2.false in
    record {
      turn = λ start since is follows who at_who.
          let whose = whose_slot c.args.self.now.slots c.args.at who le at_who in
          on_ok c.turn_of_slot.result _ _ (λ made.
          subst (λ (w : Who). TurnOf g.S.Site g.D.Desk.server g.D.Desk.moved g.D.Desk.same start since w c.turn_of_slot.new.self.slots c.args.site.now c.turn_of_slot.new.site (g.D.Desk.state c.turn_of_slot.new.desk) c.args.desk.now c.turn_of_slot.new.desk) (sym whose.2) made)
          (c.turn_of_slot.ensures.turn start since is follows whose.0 whose.1);
      cut = λ start since is follows who at_who.
          let whose = whose_slot c.args.self.now.slots c.args.at who le at_who in
          on_err c.turn_of_slot.result _ _ (λ cut.
          subst (λ (w : Who). CutOf g.D.Desk.server start since w (g.S.Site.log c.turn_of_slot.new.site)) (sym whose.2) (cut_link g.D.Desk.server start since whose.0 (g.S.Site.log c.turn_of_slot.new.site) cut))
          (c.turn_of_slot.ensures.cut start since is follows whose.0 whose.1);
      promises = c.turn_of_slot.ensures.promises;
      place = c.turn_of_slot.ensures.place;
    }

pub turn_of_door-requires : goal.turn_of_door-requires
turn_of_door-requires g c = record { free = is_free_at c.args.self.now.slots c.args.at c.if-at-lt2.true c.requires.on }
