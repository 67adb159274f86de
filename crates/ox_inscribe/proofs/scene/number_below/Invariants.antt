use Rattle.std.proofs.Common.{◌≡◌, ◌-◌, drop, length}
use Rattle.ox_script.specs.Script.{little_endian}
use Rattle.ox_inscribe.proofs.scene.number_below.Given as goal

abbrev pub invariant-loop-behind : goal.invariant-loop-behind
invariant-loop-behind l = l.number ≡ little_endian (drop (length l.bytes - l.behind) l.bytes)
