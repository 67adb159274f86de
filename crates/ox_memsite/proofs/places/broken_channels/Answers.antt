use Rattle.std.proofs.Common.{◌≡◌, ◌∙◌, Bool, false, List, ap, sym, take, length, arith, rules}
use Rattle.std.specs.Prelude.{replicate}
use Rattle.ox_memsite.specs.Flags.{flags_with, flags_after}
use Rattle.ox_memsite.specs.declared.step.Step.{Step}
use Rattle.ox_memsite.proofs.Replayed.{flags_more, length-flags_with, written_back}
use Rattle.ox_memsite.proofs.places.broken_channels.Goals as goal

pub loop-step-preserved : goal.loop-step-preserved
loop-step-preserved c =
    let step = c.step-item.result in
    let first = replicate c.args.count false in
    let so_far = flags_after (take c.loop-step.step-index c.args.steps.now) first in
    let same : length c.note_break.new.broken ≡ length c.loop-step.broken.items =
    ap length c.note_break.ensures ∙ length-flags_with step c.deref_mut.result.now ∙ ap length c.deref_mut.ensures.value in
    let size : length c.loop-step.broken.items ≡ c.loop-step.broken.len = search rules in
    written_back c.loop-step.broken.len c.note_break.new.broken c.loop-step.broken.items (omega (arith, same, size)) (omega (arith, same, size))
    ∙ c.note_break.ensures
    ∙ ap (λ (l : List Bool). flags_with step l) (c.deref_mut.ensures.value ∙ c.loop-step.invariant)
    ∙ ap (λ (s : Step). flags_with s so_far) c.step-item.is
    ∙ sym (flags_more first c.args.steps.now c.loop-step.step-index step c.loop-step-test.true)
