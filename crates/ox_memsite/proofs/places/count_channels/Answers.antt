use Rattle.std.proofs.Common.{◌≡◌, ◌∙◌, ap, sym, take, arith, max, ℕ}
use Rattle.ox_memsite.specs.Room.{channels_in}
use Rattle.ox_memsite.specs.World.{event_of, events_of}
use Rattle.ox_memsite.specs.declared.step.Step.{Step}
use Rattle.ox_memsite.proofs.Replayed.{named_more}
use Rattle.ox_memsite.proofs.places.count_channels.Goals as goal

pub loop-step-preserved : goal.loop-step-preserved
loop-step-preserved c =
    let step = c.step-item.result in
    let so_far = channels_in (events_of (take c.loop-step.step-index c.args.steps.now)) in
    let more = named_more c.args.steps.now c.loop-step.step-index step c.loop-step-test.true in
    let is : c.count_with-count.result ≡ max so_far (channels_in (event_of step)) =
    c.count_with-count.ensures.is ∙ ap (λ (n : ℕ). max n (channels_in (event_of step))) c.loop-step.invariant.is in
    record {
      is = is ∙ ap (λ (s : Step). max so_far (channels_in (event_of s))) c.step-item.is ∙ sym more;
      some = omega (arith, c.count_with-count.ensures.is, c.loop-step.invariant.some);
      few = c.count_with-count.ensures.few c.loop-step.invariant.few;
    }
