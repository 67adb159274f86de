use Rattle.std.proofs.Common.{◌≡◌, ◌<◌, ◌≤◌, ◌-◌, ◌*◌, ◌^◌, ◌++◌, length, take, drop}
use Rattle.ox_name.specs.Unlock.{bytes_within, commitment_of}
use Rattle.ox_name.proofs.unlock.commitment.Given as goal

abbrev pub invariant-loop-rest : goal.invariant-loop-rest
invariant-loop-rest l =
    (l.len ≤ 16)
    × (l.rest < 2 ^ (128 - 8 * l.len))
    × (take l.len l.into ++ bytes_within (16 - l.len) l.rest ≡ commitment_of l.name)
    × (drop l.len l.into ≡ drop l.len l.fn.into)
    × (length l.into ≡ 16)

abbrev pub decreases-loop-rest : goal.decreases-loop-rest
decreases-loop-rest l = l.rest
