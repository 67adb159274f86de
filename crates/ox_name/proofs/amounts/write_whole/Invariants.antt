use Rattle.std.proofs.Common.{◌≡◌, ◌<◌, ◌≤◌, ◌-◌, ◌^◌, ◌++◌, take, drop, reverse}
use Rattle.std.specs.Fmt.{decimal}
use Rattle.ox_name.proofs.amounts.write_whole.Given as goal

abbrev pub invariant-loop-rest : goal.invariant-loop-rest
invariant-loop-rest l =
    (l.len ≤ 38)
    × (l.rest < 10 ^ (39 - l.len))
    × (decimal l.rest ++ reverse (take l.len l.into) ≡ decimal l.whole)
    × (drop l.len l.into ≡ drop l.len l.fn.into)

abbrev pub decreases-loop-rest : goal.decreases-loop-rest
decreases-loop-rest l = l.rest
