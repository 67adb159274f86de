use Rattle.std.proofs.Common.{◌∙◌, ◌++◌, List, ap, sym, take, append_assoc}
use Rattle.ox_outside.specs.Event.{Event}
use Rattle.ox_memsite.specs.World.{event_of, events_of}
use Rattle.ox_memsite.specs.declared.step.Step.{Step}
use Rattle.ox_memsite.proofs.Replayed.{events_of_more}
use Rattle.ox_memsite.proofs.crash.append_events.Goals as goal

pub loop-step-preserved : goal.loop-step-preserved
loop-step-preserved c =
    let step = c.step-item.result in
    let before = events_of c.args.into.now.items in
    let so_far = events_of (take c.loop-step.step-index c.args.steps.now) in
    c.in_ok-append_event.ensures
    ∙ ap (λ (l : List Event). l ++ event_of step) c.loop-step.invariant
    ∙ append_assoc before so_far (event_of step)
    ∙ ap (λ (s : Step). before ++ (so_far ++ event_of s)) c.step-item.is
    ∙ ap (λ (l : List Event). before ++ l) (sym (events_of_more c.args.steps.now c.loop-step.step-index step c.loop-step-test.true))
