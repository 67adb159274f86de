-- Hashes of blocks and transactions, in serialized order.
use Rattle.std.specs.Prelude.{ℕ, zero, suc, List, [], ◌∷◌, ◌++◌, length, map, replicate, nat_lt}
use Rattle.std.specs.Prelude.{if◌then◌else◌}
use Rattle.sha2.specs.Sha256.{sha256}
use Rattle.ox_block.specs.Spelling.{header, stripped_form, tx}
use Rattle.ox_block.specs.declared.block.Header.{Header}
use Rattle.ox_block.specs.declared.block.Tx.{Tx}
use Rattle.ox_block.specs.declared.block.Block.{Block}

-- SHA-256 applied twice
abbrev pub double_hash : List ℕ → List ℕ
double_hash message = sha256 (sha256 message)

-- a block's hash, over the 80 bytes of its header
unfoldable pub block_hash : Header → List ℕ
block_hash h = double_hash (header h)

-- a transaction's id, over the form without witnesses
unfoldable pub txid : Tx → List ℕ
txid t = double_hash (stripped_form t)

-- the id over the whole form (BIP 141)
unfoldable pub wtxid : Tx → List ℕ
wtxid t = double_hash (tx t)

-- ---- the root of a row of hashes

-- the row above: pairs are hashed, and an odd last one with itself
unfoldable pub next_row : List (List ℕ) → List (List ℕ)
next_row [] = []
next_row (a ∷ []) = double_hash (a ++ a) ∷ []
next_row (a ∷ b ∷ row) = double_hash (a ++ b) ∷ next_row row

-- so many rows up, and none above a row of one hash
unfoldable pub rows_up : ℕ → List (List ℕ) → List (List ℕ)
rows_up zero row = row
rows_up (suc n) row = if nat_lt 1 (length row) then rows_up n (next_row row) else row

-- the first hash of a row
abbrev pub first_hash : List (List ℕ) → List ℕ
first_hash [] = []
first_hash (a ∷ row) = a

-- The one that is left: no row takes more steps than it has hashes.
unfoldable pub root_of : List (List ℕ) → List ℕ
root_of row = first_hash (rows_up (length row) row)

-- the root of the transactions' ids
unfoldable pub block_root : Block → List ℕ
block_root b = root_of (map txid b.txs)

-- the ids over the whole forms, the coinbase's counting as 32 zero bytes (BIP 141)
abbrev pub witness_ids : List Tx → List (List ℕ)
witness_ids [] = []
witness_ids (coinbase ∷ txs) = replicate 32 0 ∷ map wtxid txs

-- their root
unfoldable pub block_witness_root : Block → List ℕ
block_witness_root b = root_of (witness_ids b.txs)
