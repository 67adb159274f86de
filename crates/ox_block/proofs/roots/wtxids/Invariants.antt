use Rattle.std.proofs.Common.{◌≡◌, take, map, ◌∷◌}
use Rattle.std.specs.Prelude.{replicate}
use Rattle.ox_block.specs.Hashes.{wtxid}
use Rattle.ox_block.proofs.roots.wtxids.Given as goal

abbrev pub invariant-loop-tx : goal.invariant-loop-tx
invariant-loop-tx l = l.ids.items ≡ replicate 32 0 ∷ map wtxid (take l.tx-index l.others)
