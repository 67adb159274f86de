use Rattle.std.proofs.Common.{◌≡◌, take}
use Rattle.ox_drill.specs.Line.{burned_in}
use Rattle.ox_drill.proofs.line.burned.Given as goal

abbrev pub invariant-loop-rune : goal.invariant-loop-rune
invariant-loop-rune l = l.sum ≡ burned_in (take l.rune-index l.runes)
