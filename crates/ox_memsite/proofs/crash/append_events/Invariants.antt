use Rattle.std.proofs.Common.{◌≡◌, ◌++◌, take}
use Rattle.ox_memsite.specs.World.{events_of}
use Rattle.ox_memsite.proofs.crash.append_events.Given as goal

abbrev pub invariant-loop-step : goal.invariant-loop-step
invariant-loop-step l = events_of l.into.items ≡ events_of l.initial.into.items ++ events_of (take l.step-index l.steps)
