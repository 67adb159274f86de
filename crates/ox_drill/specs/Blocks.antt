-- What the block of a height stands behind.
use Rattle.std.specs.Prelude.{ℕ, zero, suc, List}
use Rattle.ox_block.specs.Hashes.{block_hash}
use Rattle.ox_gen.specs.Made.{zeros}
use Rattle.ox_drill.specs.Chain.{coinbase_id, drill_block}
use Rattle.ox_drill.specs.declared.blocks.Behind.{Behind}

-- the hash of the block before, and the id of its coinbase; before the first block stand zeros
abbrev pub tip_before : ℕ → List ℕ
tip_before zero = zeros
tip_before (suc before) = block_hash (drill_block before).header

abbrev pub paid_before : ℕ → List ℕ
paid_before zero = zeros
paid_before (suc before) = coinbase_id (drill_block before).txs

abbrev pub behind_of : ℕ → Behind
behind_of height = record {
  height = height;
  tip = tip_before height;
  paid = record { 0 = paid_before height };
}
