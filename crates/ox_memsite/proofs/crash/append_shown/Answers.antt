use Rattle.std.proofs.Common.{◌∙◌, ◌++◌, ℕ, List, ap, sym, take, append_assoc}
use Rattle.ox_outside.specs.Event.{shown_bytes}
use Rattle.ox_memsite.specs.World.{event_of, events_of}
use Rattle.ox_memsite.specs.declared.step.Step.{Step}
use Rattle.ox_memsite.proofs.Replayed.{shown_more}
use Rattle.ox_memsite.proofs.crash.append_shown.Goals as goal

pub loop-step-preserved : goal.loop-step-preserved
loop-step-preserved c =
    let step = c.step-item.result in
    let so_far = shown_bytes c.args.channel (events_of (take c.loop-step.step-index c.args.steps.now)) in
    c.in_ok-show_step.ensures
    ∙ ap (λ (l : List ℕ). l ++ shown_bytes c.args.channel (event_of step)) c.loop-step.invariant
    ∙ append_assoc c.args.into.now so_far (shown_bytes c.args.channel (event_of step))
    ∙ ap (λ (s : Step). c.args.into.now ++ (so_far ++ shown_bytes c.args.channel (event_of s))) c.step-item.is
    ∙ ap (λ (l : List ℕ). c.args.into.now ++ l) (sym (shown_more c.args.channel c.args.steps.now c.loop-step.step-index step c.loop-step-test.true))
