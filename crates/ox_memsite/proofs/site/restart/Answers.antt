use Rattle.std.proofs.Common.{◌≡◌, ◌∙◌, length, List, false, ap, sym, arith}
use Rattle.std.specs.Prelude.{replicate}
use Rattle.std.proofs.lemmas.List.{length-replicate}
use Rattle.ox_memsite.specs.Channels.{silent_channel}
use Rattle.ox_memsite.specs.Flags.{flags_after}
use Rattle.ox_memsite.specs.Room.{channels_in}
use Rattle.ox_memsite.specs.World.{events_of}
use Rattle.ox_memsite.specs.declared.step.Step.{Step}
use Rattle.ox_memsite.proofs.Starts.{kept_first}
use Rattle.ox_memsite.proofs.site.restart.Goals as goal

pub invariant_of-result : goal.invariant_of-result
invariant_of-result c =
    let is : c.count_channels-count.result ≡ channels_in (events_of c.args.past.items) =
    c.count_channels-count.ensures.is ∙ ap (λ (l : List Step). channels_in (events_of l)) c.deref.ensures.value in
    kept_first c.args.past.items c.count_channels-count.result _ _ _ _ _ _ _ _
    (sym (c.in_ok-from_slice.ensures.items ∙ c.deref-2.ensures.value))
    (sym (c.in_ok-from_slice-2.ensures.items ∙ c.deref-3.ensures.value))
    is c.count_channels-count.ensures.few (omega (arith, c.in_ok-new.ensures.spare, c.most_owed.ensures)) c.in_ok-new.ensures.filled
    (c.in_ok-broken_channels.ensures ∙ ap (λ (l : List Step). flags_after l (replicate c.count_channels-count.result false)) c.deref-4.ensures.value)
    (ap length c.in_ok-silent_channels.ensures ∙ length-replicate c.count_channels-count.result silent_channel)
