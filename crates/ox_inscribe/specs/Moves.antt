-- What a transfer tells of the transactions that reveal inscriptions.
use Rattle.std.specs.Prelude.{◌≡◌, ◌≤◌, List, length, drop, sum}
use Rattle.std.specs.List.{AllZip}
use Rattle.ox_block.specs.declared.block.Tx.{Tx}
use Rattle.ox_rules.specs.Outputs.{sats_of}
use Rattle.ox_rules.specs.Transfer.{txid_of, values_of}
use Rattle.ox_rules.specs.declared.moved.MovedTx.{MovedTx}

-- what a transaction did with satoshis: it has this id and spent one row for each input, whose
-- satoshis, joined, are at least as many as its outputs take
pub record IsMoveOf (tx : Tx) (moved : MovedTx) : Type 0 where
  pub txid : moved.txid ≡ txid_of tx
  pub rows : length moved.spent ≡ length tx.inputs
  pub joined : moved.joined ≡ sats_of moved.spent
  pub enough : sum (values_of tx) ≤ length moved.joined

-- what each transaction of a block but the coinbase did
abbrev pub AreMovesOf : List Tx → List MovedTx → Type 0
AreMovesOf txs moved = AllZip IsMoveOf (drop 1 txs) (drop 1 moved)
