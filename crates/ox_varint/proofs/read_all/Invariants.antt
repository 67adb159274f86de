use Rattle.std.proofs.Common.{◌≡◌, ◌<◌, ◌≤◌, ◌^◌, ◌-◌, ◌*◌, drop}
use Rattle.ox_varint.specs.Varint.{varint_at, varint_within}
use Rattle.ox_varint.proofs.ReadLoop.{with_front}
use Rattle.ox_varint.proofs.read_all.Given as goal

abbrev pub invariant-loop-place : goal.invariant-loop-place
invariant-loop-place l =
    (l.place ≤ 18)
    × (l.value < 2 ^ (7 * l.place))
    × (with_front l.value l.place (varint_within (18 - l.place) (drop l.place l.bytes)) ≡ varint_at l.bytes)
