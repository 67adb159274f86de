use Rattle.std.proofs.Common.{ℕ, subst, inr}
use Rattle.std.specs.Prelude.{Option, Ok}
use Rattle.std.specs.Option.{ForSome}
use Rattle.ox_outside.specs.Answers.{IsLinkNumber, NeverNamed, NeverOpened}
use Rattle.ox_outside.specs.Event.{door_events}
use Rattle.ox_outside.specs.Log.{Adds}
use Rattle.ox_turns.proofs.turns.Turns.turn_of_door.Goals as goal

pub returns-in-Ok-Some-clause-comes : goal.returns-in-Ok-Some-clause-comes
returns-in-Ok-Some-clause-comes g c =
    let S = g.S.Site in
    let is = c.in-Ok-Some.field-0-is in
    let said = c.in-Ok-Some.ensures in
    let one = subst (λ (o : Option ℕ). IsLinkNumber (Ok o)) is said.number in
    let unnamed = subst (λ (o : Option ℕ). ForSome (S.log c.args.site.now) (NeverNamed (Ok o))) is said.unnamed in
    let fresh = subst (λ (o : Option ℕ). ForSome (S.log c.args.site.now) (NeverOpened (Ok o))) is said.new in
    let adds = subst (λ (o : Option ℕ). Adds (door_events c.args.door (Ok o)) (S.log c.args.site.now) (S.log c.door.new.self)) is said.logged in
    inr (c.in-Ok-Some.channel, one, c.seat.ensures.seated, λ log at. (unnamed log at, fresh log at), adds)
