use Rattle.std.proofs.Common.{◌≡◌, ◌≤◌, ◌*◌, ◌++◌, length, take, drop}
use Rattle.ox_name.specs.Name.{name_of}
use Rattle.ox_name.specs.Spaced.{spaced_name}
use Rattle.ox_name.proofs.spacers.write_spaced.Given as goal

abbrev pub invariant-loop-place : goal.invariant-loop-place
invariant-loop-place l =
    (l.len ≤ 4 * l.place)
    × (take l.len l.into ++ spaced_name l.gaps (drop l.place (name_of l.name)) ≡ spaced_name l.spacers (name_of l.name))
    × (drop l.len l.into ≡ drop l.len l.fn.into)
    × (length l.into ≡ 112)
