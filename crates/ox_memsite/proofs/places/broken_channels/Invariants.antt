use Rattle.std.proofs.Common.{◌≡◌, take, false}
use Rattle.std.specs.Prelude.{replicate}
use Rattle.ox_memsite.specs.Flags.{flags_after}
use Rattle.ox_memsite.proofs.places.broken_channels.Given as goal

abbrev pub invariant-loop-step : goal.invariant-loop-step
invariant-loop-step l =
    l.broken.items ≡ flags_after (take l.step-index l.steps) (replicate l.count false)
