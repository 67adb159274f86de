use Rattle.std.proofs.Common.{◌≡◌, ◌∙◌, ◌++◌, List, ap}
use Rattle.ox_outside.specs.Event.{Event}
use Rattle.ox_memsite.specs.World.{event_of, events_of}
use Rattle.ox_memsite.proofs.Kept.{events_of-push}
use Rattle.ox_memsite.proofs.crash.append_event.Goals as goal

pub returns-in_ok-push : goal.returns-in_ok-push
returns-in_ok-push c =
    let same_event : event_of c.in-Some.copy ≡ event_of c.args.step.now = rw c.in-Some.is at c.in_ok-copy.ensures in
    ap events_of c.in_ok-push.ensures.items ∙ events_of-push c.args.into.now.items c.in-Some.copy ∙ ap (λ (l : List Event). events_of c.args.into.now.items ++ l) same_event
