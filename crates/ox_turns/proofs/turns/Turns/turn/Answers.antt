use Rattle.std.proofs.Common.{◌≡◌, ◌∙◌, ◌+◌, ℕ, suc, arith, List, ap, sym, subst, get_or, None, Some, Option}
use Rattle.ox_links.specs.Rotation.{next_turn, places}
use Rattle.ox_turns.specs.Follows.{Follows}
use Rattle.ox_turns.specs.Places.{Places, channels_of}
use Rattle.ox_turns.specs.Turn.{TurnPromises}
use Rattle.ox_turns.proofs.Rounds.{cut_at, on_err, on_ok}
use Rattle.ox_turns.proofs.turns.Turns.turn.Goals as goal

pub returns : goal.returns
returns g c =
    let next = c.next-at.ensures.next in
    let seen = sym c.self.view_is in
    let channel = subst (λ (p : Places). get_or (places (channels_of p.slots)) c.next-at.result None ≡ Some next.0) seen next.2 in
    record {
      turn = λ start since is follows.
          let whose = ap (λ (l : List (Option ℕ)). next_turn c.args.self.now.place l) (sym follows.places) ∙ next.1 in
          on_ok c.turn_at.result _ _ (λ made. record { at = c.next-at.result; who = next.0; whose = whose; on = c.turn_at.ensures.place ∙ (let e : c.next-at.result + 1 ≡ suc c.next-at.result = omega arith in e); turn = made })
          (c.turn_at.ensures.turn start since is (subst (λ (p : Places). Follows g.D.Desk.server start since p.slots (g.D.Desk.state c.args.desk.now)) seen follows) next.0 channel);
      cut = λ start since is follows.
          let whose = ap (λ (l : List (Option ℕ)). next_turn c.args.self.now.place l) (sym follows.places) ∙ next.1 in
          on_err c.turn_at.result _ _ (cut_at g.D.Desk.server start since c.args.self.now.place c.next-at.result next.0 (g.S.Site.log c.turn_at.new.site) whose)
          (c.turn_at.ensures.cut start since is (subst (λ (p : Places). Follows g.D.Desk.server start since p.slots (g.D.Desk.state c.args.desk.now)) seen follows) next.0 channel);
      promises = subst (λ (p : Places). TurnPromises g.S.Site g.D.Desk c.turn_at.result p.slots c.args.site.now c.turn_at.new.site c.args.desk.now c.turn_at.new.desk) c.self.view_is c.turn_at.ensures.promises;
    }

pub turn_at-requires-clause-may : goal.turn_at-requires-clause-may
turn_at-requires-clause-may g c =
    record {
      rests = c.requires.rests;
      asked = c.requires.asked;
      follows = λ x is.
          let some = c.requires.follows x is in
          (some.0, some.1, some.2, subst (λ (p : Places). Follows g.D.Desk.server some.0 some.1 p.slots (g.D.Desk.state c.args.desk.now)) (sym c.self.view_is) some.3);
    }
