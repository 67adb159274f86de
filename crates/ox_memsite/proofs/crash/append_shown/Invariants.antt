use Rattle.std.proofs.Common.{◌≡◌, ◌++◌, take}
use Rattle.ox_outside.specs.Event.{shown_bytes}
use Rattle.ox_memsite.specs.World.{events_of}
use Rattle.ox_memsite.proofs.crash.append_shown.Given as goal

abbrev pub invariant-loop-step : goal.invariant-loop-step
invariant-loop-step l = l.into ≡ l.initial.into ++ shown_bytes l.channel (events_of (take l.step-index l.steps))
