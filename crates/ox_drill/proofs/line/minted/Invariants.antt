use Rattle.std.proofs.Common.{◌≡◌, take}
use Rattle.ox_drill.specs.Line.{minted_in}
use Rattle.ox_drill.proofs.line.minted.Given as goal

abbrev pub invariant-loop-rune : goal.invariant-loop-rune
invariant-loop-rune l = l.sum ≡ minted_in (take l.rune-index l.runes)
