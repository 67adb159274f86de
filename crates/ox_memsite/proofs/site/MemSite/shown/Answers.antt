use Rattle.std.proofs.Common.{◌≡◌, ◌∙◌, ◌++◌, List, ℕ, ap, sym}
use Rattle.ox_outside.specs.Event.{shown_bytes}
use Rattle.ox_outside.proofs.Event.{shown_bytes-append}
use Rattle.ox_memsite.specs.World.{World, events_of, log_of}
use Rattle.ox_memsite.specs.declared.step.Step.{Step}
use Rattle.ox_memsite.proofs.site.MemSite.shown.Goals as goal

pub returns : goal.returns
returns c =
    let past = c.self.inside.past.items in
    let steps = c.self.inside.steps.filled in
    let shown = λ (l : List Step). shown_bytes c.args.channel (events_of l) in
    let first : c.append_shown.new.into ≡ shown past =
    c.in_ok-append_shown.ensures ∙ ap (λ (l : List ℕ). l ++ shown c.deref.result.now) c.empty-bytes.ensures ∙ ap shown c.deref.ensures.value in
    let both : c.append_shown-2.new.into ≡ shown past ++ shown steps =
    c.in_ok-append_shown-2.ensures ∙ ap (λ (l : List ℕ). l ++ shown c.as_slice.result.now) first ∙ ap (λ (l : List Step). shown past ++ shown l) c.as_slice.ensures in
    both ∙ sym (shown_bytes-append c.args.channel (events_of past) (events_of steps)) ∙ ap (λ (w : World). shown_bytes c.args.channel (log_of w)) c.self.view_is
