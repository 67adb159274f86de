use Rattle.std.proofs.Common.{◌≡◌, ◌^◌, ◌<◌, replicate}
use Rattle.std.specs.Prelude.{fold}
use Rattle.ox_address.specs.Checksum.{step}
use Rattle.ox_address.proofs.writing.checksum_after.Given as goal

abbrev pub invariant-loop-place : goal.invariant-loop-place
invariant-loop-place l = (l.sum ≡ fold step l.fn.sum (replicate l._place 0)) × (l.sum < 2 ^ 30)
