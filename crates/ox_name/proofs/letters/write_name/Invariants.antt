use Rattle.std.proofs.Common.{◌≡◌, ◌<◌, ◌≤◌, ◌-◌, ◌++◌, take, drop, reverse}
use Rattle.ox_name.specs.Name.{name_of, name_within}
use Rattle.ox_name.proofs.NamesAreOneToOne.{least}
use Rattle.ox_name.proofs.letters.write_name.Given as goal

abbrev pub invariant-loop-rest : goal.invariant-loop-rest
invariant-loop-rest l =
    (l.len ≤ 27)
    × (l.rest < least (28 - l.len))
    × (name_within (27 - l.len) l.rest ++ reverse (take l.len l.into) ≡ name_of l.name)
    × (drop l.len l.into ≡ drop l.len l.fn.into)

abbrev pub decreases-loop-rest : goal.decreases-loop-rest
decreases-loop-rest l = l.rest
