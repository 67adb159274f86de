use Rattle.std.proofs.Common.{◌∙◌, ◌-◌, arith, ap, get_or, None}
use Rattle.std.specs.Prelude.{is_some}
use Rattle.std.proofs.lemmas.List.{get_or_read}
use Rattle.ox_turns.specs.Places.{Places}
use Rattle.ox_turns.proofs.Rotating.{door_on, slot_on}
use Rattle.ox_turns.proofs.turns.Turns.is_on.Goals as goal

pub returns-then-place-lt2 : goal.returns-then-place-lt2
returns-then-place-lt2 c = c.is_some.ensures ∙ door_on c.args.self.now.slots c.free.result c.args.place c.free.ensures c.if-place-lt2.true

pub returns-else-place-lt2 : goal.returns-else-place-lt2
returns-else-place-lt2 c =
    c.is_some-else-place-lt2.ensures
    ∙ ap is_some (get_or_read c.self.inside.slots.items _ _ (omega (arith, c.requires, c.if-place-lt2.false, c.self.invariant.0, c.self.inside.slots.ok.0)) c.index.ensures None)
    ∙ ap (λ (p : Places). is_some (get_or p.slots (c.args.place - 2) None)) c.self.view_is
    ∙ slot_on c.args.self.now.slots c.args.place c.if-place-lt2.false
