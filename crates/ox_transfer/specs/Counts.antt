-- Counts that a block's size bounds.
use Rattle.std.specs.Prelude.{◌≤◌, length, sum_by}
use Rattle.ox_block.specs.declared.block.Tx.{Tx}
use Rattle.ox_block.specs.Spelling.{most_value, most_bytes}

-- A transaction has no more inputs and outputs than a block has bytes, and its outputs no more than
-- all satoshis.
pub record Counted (tx : Tx) : Type 0 where
  pub inputs : length tx.inputs ≤ most_bytes
  pub outputs : length tx.outputs ≤ most_bytes
  pub values : sum_by (λ output. output.value) tx.outputs ≤ most_value
