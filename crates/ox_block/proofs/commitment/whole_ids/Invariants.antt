use Rattle.std.proofs.Common.{◌≡◌, take}
use Rattle.ox_block.specs.Hashes.{witness_ids}
use Rattle.ox_block.proofs.commitment.whole_ids.Given as goal

-- those so far
abbrev pub invariant-loop-place : goal.invariant-loop-place
invariant-loop-place l = l.whole.items ≡ take l.place (witness_ids l.txs)
