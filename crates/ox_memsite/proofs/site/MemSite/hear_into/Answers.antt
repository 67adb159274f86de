use Rattle.std.proofs.Common.{arith, rules, refl, ap, sym, subst, ◌≡◌, ◌∙◌, ◌<◌, length, drop, List, ℕ}
use Rattle.ox_memsite.specs.Heard.{said_by, input_after, steps_with}
use Rattle.ox_memsite.specs.World.{World}
use Rattle.ox_memsite.specs.declared.channel.Channel.{Channel}
use Rattle.ox_memsite.specs.declared.step.Step.{Step}
use Rattle.ox_memsite.proofs.Lent.{heard_many, noted_back, noted_as_many}
use Rattle.ox_memsite.proofs.Kept.{kept_same, kept_said, kept_count}
use Rattle.ox_memsite.proofs.Starts.{back_same, said_fits, always_err, same_world, hears}
use Rattle.ox_memsite.proofs.site.MemSite.hear_into.Goals as goal

pub say_next-requires-clause-known : goal.say_next-requires-clause-known
say_next-requires-clause-known c =
    let below = subst (λ (w : World). c.args.channel < length w.channels) (sym c.self.view_is) c.requires in
    subst (λ (l : List Channel). c.args.channel < length l) (sym c.deref_mut.ensures.value) below

pub note_said-requires-clause-spare : goal.note_said-requires-clause-spare
note_said-requires-clause-spare c = omega (arith, c.in_ok-make_room.ensures.ok)

pub note_said-requires-clause-known : goal.note_said-requires-clause-known
note_said-requires-clause-known c =
    let below = subst (λ (w : World). c.args.channel < length w.channels) (sym c.self.view_is) c.requires in
    let size : length c.self.inside.channels.items ≡ c.self.inside.channels.len = search rules in
    omega (arith, below, heard_many c.args.channel (length c.args.into.now) _ _ _ _ _ size c.deref_mut.ensures.value c.in_ok-said.ensures.channels c.deref_mut-2.ensures.value)

pub note_said-requires-clause-fits : goal.note_said-requires-clause-fits
note_said-requires-clause-fits c =
    said_fits c.args.channel (length c.args.into.now) (drop c.self.inside.heard c.deref.result.now) c.deref_mut.result.now c.in_ok-said.said c.in_ok-said.ensures.ok

pub invariant_of-self-2 : goal.invariant_of-self-2
invariant_of-self-2 c =
    let below = subst (λ (w : World). c.args.channel < length w.channels) (sym c.self.view_is) c.requires in
    let size : length c.self.inside.channels.items ≡ c.self.inside.channels.len = search rules in
    kept_count _ _ _ _ _ _ _ _ _ _
    (kept_said _ _ _ _ _ _ _ _ _ _ c.self.invariant c.in_ok-said.said c.args.channel _ _ _
    (c.note_said.ensures.steps ∙ ap (λ (l : List Step). steps_with c.args.channel c.in_ok-said.said l) c.in_ok-make_room.ensures.steps)
    below (omega (arith, c.note_said.ensures.spare, c.in_ok-make_room.ensures.ok))
    (let within = c.in_ok-said.ensures.within in omega (arith, within, c.deref.ensures.len)))
    _ (noted_as_many c.args.channel (length c.args.into.now) _ _ _ _ _ size c.deref_mut.ensures.value c.in_ok-said.ensures.channels c.deref_mut-2.ensures.value c.in_ok-said.said _ c.note_said.ensures.channels)

pub invariant_of-self-in_err-said : goal.invariant_of-self-in_err-said
invariant_of-self-in_err-said c =
    let items = c.self.inside.channels.items in
    let new = c.say_next.new.channels in
    let size : length items ≡ c.self.inside.channels.len = search rules in
    let same : new ≡ items = c.in_err-said.ensures.err.1 ∙ c.deref_mut.ensures.value in
    let back = back_same c.self.inside.channels.len new items size (ap length same) in
    kept_count _ _ _ _ _ _ _ _ _ _
    (kept_same _ _ _ _ _ _ _ _ _ _ c.self.invariant _ _ _ _ _ refl refl c.in_ok-make_room.ensures.steps (omega (arith, c.in_ok-make_room.ensures.ok))
    (omega (arith, c.in_err-said.ensures.err.0, c.self.invariant.within)))
    _ (ap length back ∙ ap length same)

pub returns-in_err-said-clause-err : goal.returns-in_err-said-clause-err
returns-in_err-said-clause-err c =
    let items = c.self.inside.channels.items in
    let new = c.say_next.new.channels in
    let size : length items ≡ c.self.inside.channels.len = search rules in
    let same : new ≡ items = c.in_err-said.ensures.err.1 ∙ c.deref_mut.ensures.value in
    let back = back_same c.self.inside.channels.len new items size (ap length same) in
    always_err c.from_residual-in_err-said.result _ (same_world _ _ _ _ _ c.self.view_is c.in_ok-make_room.ensures.steps (ap (λ (n : ℕ). drop n c.self.inside.input.items) c.in_err-said.ensures.err.0) (back ∙ same), refl)

pub returns-clause-ok : goal.returns-clause-ok
returns-clause-ok c =
    let room = length c.args.into.now in
    let size : length c.self.inside.channels.items ≡ c.self.inside.channels.len = search rules in
    let input = subst (λ (l : List ℕ). drop c.say_next.new.heard l ≡ input_after c.args.channel room (drop c.self.inside.heard l)) c.deref.ensures.value c.in_ok-said.ensures.input in
    let is_next = c.in_ok-said.ensures.ok
    ∙ ap (λ (l : List ℕ). said_by c.args.channel room (drop c.self.inside.heard l) c.deref_mut.result.now) c.deref.ensures.value
    ∙ ap (λ (l : List Channel). said_by c.args.channel room (drop c.self.inside.heard c.self.inside.input.items) l) c.deref_mut.ensures.value in
    hears c.args.channel c.args.into.now _ _ _ _ c.in_ok-said.said _ _ _ c.self.view_is is_next c.note_said.ensures.answer c.note_said.ensures.front
    (c.note_said.ensures.steps ∙ ap (λ (l : List Step). steps_with c.args.channel c.in_ok-said.said l) c.in_ok-make_room.ensures.steps)
    input
    (noted_back c.args.channel room _ _ _ _ _ size c.deref_mut.ensures.value c.in_ok-said.ensures.channels c.deref_mut-2.ensures.value c.in_ok-said.said _ c.note_said.ensures.channels)
