-- The commitment to a block's witnesses, which stands in an output of its coinbase (BIP 141,
-- "Commitment structure").
use Rattle.std.specs.Prelude.{ℕ, Bool, true, false, not, ◌&&◌, ◌==◌, bytes_eq, nat_lt, List, []}
use Rattle.std.specs.Prelude.{◌∷◌, ◌++◌, length, map, take, drop, Option, Some, None}
use Rattle.std.specs.Prelude.{if◌then◌else◌}
use Rattle.std.specs.List.{filter, last_or, list_any}
use Rattle.ox_block.specs.Hashes.{double_hash, block_witness_root}
use Rattle.ox_block.specs.declared.block.TxIn.{TxIn}
use Rattle.ox_block.specs.declared.block.TxOut.{TxOut}
use Rattle.ox_block.specs.declared.block.Tx.{Tx}
use Rattle.ox_block.specs.declared.block.Block.{Block}

-- ---- the definition

-- the bytes 6a24aa21a9ed: OP_RETURN, a push of 36 bytes, and the four that are kept for commitments
abbrev pub commitment_front : List ℕ
commitment_front = 106 ∷ 36 ∷ 170 ∷ 33 ∷ 169 ∷ 237 ∷ []

-- A script commits where it has at least 38 bytes and begins so.
abbrev pub commits : List ℕ → Bool
commits script = not (nat_lt (length script) 38) && bytes_eq commitment_front (take 6 script)

-- the scripts of these outputs that commit, in order
abbrev pub commitments_in : List TxOut → List (List ℕ)
commitments_in outputs = filter commits (map (λ output. output.script) outputs)

-- those of the coinbase's outputs
abbrev pub commitments : List Tx → List (List ℕ)
commitments [] = []
commitments (coinbase ∷ txs) = commitments_in coinbase.outputs

-- the one item of a stack, where it has 32 bytes
abbrev pub item_of_32 : List (List ℕ) → Option (List ℕ)
item_of_32 (item ∷ []) = if length item == 32 then Some item else None
item_of_32 items = None

-- that of the one stack of these inputs
abbrev pub reserved_in : List TxIn → Option (List ℕ)
reserved_in (input ∷ []) = item_of_32 input.witness
reserved_in inputs = None

-- the reserved value: that of the coinbase
abbrev pub reserved : List Tx → Option (List ℕ)
reserved [] = None
reserved (coinbase ∷ txs) = reserved_in coinbase.inputs

-- a committing script holds the double hash of the witness root and the reserved value
abbrev pub holds_root : List ℕ → List ℕ → Option (List ℕ) → Bool
holds_root script root None = false
holds_root script root (Some value) =
    bytes_eq (take 32 (drop 6 script)) (double_hash (root ++ value))

-- a transaction of the block is marked
abbrev pub some_marked : Block → Bool
some_marked block = list_any (λ (tx : Tx). tx.marked) block.txs

-- what counts is the last commitment, or that there is none: then no transaction is marked
abbrev pub committed_by : Option (List ℕ) → Block → Bool
committed_by None block = not (some_marked block)
committed_by (Some script) block =
    holds_root script (block_witness_root block) (reserved block.txs)

-- The block commits to its witnesses as it has to.
unfoldable pub committed : Block → Bool
committed block = committed_by (last_or None (commitments block.txs)) block

-- ---- how a commitment is made

-- the output that commits to a witness root by a reserved value
abbrev pub commitment_to : List ℕ → List ℕ → TxOut
commitment_to root value =
    record { value = 0; script = commitment_front ++ double_hash (root ++ value) }

-- the transaction with that output behind its own, and with this value as each input's witness
abbrev pub with_commitment : List ℕ → List ℕ → Tx → Tx
with_commitment root value tx = record tx {
  marked = true;
  inputs = map (λ (input : TxIn). record input { witness = value ∷ [] }) tx.inputs;
  outputs = tx.outputs ++ commitment_to root value ∷ [];
}

-- the first transaction so, and the others as they are
abbrev pub first_committing : List ℕ → List ℕ → List Tx → List Tx
first_committing root value [] = []
first_committing root value (coinbase ∷ txs) = with_commitment root value coinbase ∷ txs

-- the block whose coinbase commits to its witness root by this value
abbrev pub committing : List ℕ → Block → Block
committing value block =
    record block { txs = first_committing (block_witness_root block) value block.txs }
