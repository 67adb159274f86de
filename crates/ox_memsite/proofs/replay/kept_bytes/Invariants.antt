use Rattle.std.proofs.Common.{◌≡◌, take}
use Rattle.ox_outside.specs.Disk.{filled_bytes}
use Rattle.ox_memsite.proofs.replay.kept_bytes.Given as goal

abbrev pub invariant-loop-place : goal.invariant-loop-place
invariant-loop-place l = l.kept.items ≡ filled_bytes l.fill (take l.place l.uncovered) l.bytes
