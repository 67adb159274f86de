use Rattle.std.proofs.Common.{◌≡◌, ◌<◌, ◌≤◌, ◌^◌, ◌-◌, ◌*◌, ◌++◌, take, drop}
use Rattle.ox_varint.specs.Varint.{varint, spelling_within}
use Rattle.ox_varint.proofs.write_all.Given as goal

abbrev pub invariant-loop-rest : goal.invariant-loop-rest
invariant-loop-rest l =
    (l.len ≤ 18)
    × (l.rest < 2 ^ (128 - 7 * l.len))
    × (take l.len l.into ++ spelling_within (18 - l.len) l.rest ≡ varint l.n)
    × (drop l.len l.into ≡ drop l.len l.fn.into)

abbrev pub decreases-loop-rest : goal.decreases-loop-rest
decreases-loop-rest l = l.rest
