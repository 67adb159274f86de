use Rattle.std.proofs.Common.{◌≡◌, drop}
use Rattle.ox_ledger.specs.Runes.{stone_in}
use Rattle.ox_ledger.proofs.artifact.stone_in.Given as goal

abbrev pub invariant-loop-output : goal.invariant-loop-output
invariant-loop-output l = stone_in (drop l.output-index l.outputs) ≡ stone_in l.outputs
