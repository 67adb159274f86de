use Rattle.std.proofs.Common.{◌≡◌, take}
use Rattle.ox_outside.specs.Disk.{synced_disk}
use Rattle.ox_memsite.specs.World.{disk_after}
use Rattle.ox_memsite.proofs.crash.replay_of.Given as goal

abbrev pub invariant-loop-step : goal.invariant-loop-step
invariant-loop-step l = l.replay ≡ disk_after l.file (synced_disk l.first) (take l.step-index l.steps)
