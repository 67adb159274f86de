-- What is a lawful block, and the one spelling of each (Bitcoin's serialization; BIP 144 for
-- marker, flag and witnesses).
use Rattle.std.specs.Prelude.{◌≡◌, ℕ, ◌<◌, ◌≤◌, ◌^◌, Bool, List, [], ◌∷◌, ◌++◌, length, nat_lt}
use Rattle.std.specs.Prelude.{sum_by, if◌then◌else◌}
use Rattle.std.specs.Int.{w32, w64, to_le_bytes}
use Rattle.std.specs.List.{flat_map, AllByRecursion, list_any}
use Rattle.ox_bytes.specs.Limits.{block_limit}
use Rattle.ox_bytes.specs.Spelling.{compact, string}
use Rattle.ox_block.specs.declared.block.OutPoint.{OutPoint}
use Rattle.ox_block.specs.declared.block.TxIn.{TxIn}
use Rattle.ox_block.specs.declared.block.TxOut.{TxOut}
use Rattle.ox_block.specs.declared.block.Tx.{Tx}
use Rattle.ox_block.specs.declared.block.Header.{Header}
use Rattle.ox_block.specs.declared.block.Block.{Block}

-- ---- the spelling

-- the output that an input spends: the txid in serialized order, and the index
abbrev pub outpoint : OutPoint → List ℕ
outpoint o = o.txid.0 ++ to_le_bytes w32 o.index

-- an input, without its witness stack
abbrev pub input : TxIn → List ℕ
input i = outpoint i.from ++ string i.script ++ to_le_bytes w32 i.sequence

abbrev pub output : TxOut → List ℕ
output o = to_le_bytes w64 o.value ++ string o.script

abbrev pub inputs : List TxIn → List ℕ
inputs is = compact (length is) ++ flat_map input is

abbrev pub outputs : List TxOut → List ℕ
outputs os = compact (length os) ++ flat_map output os

-- a witness stack: how many byte strings, and these
abbrev pub stack : List (List ℕ) → List ℕ
stack items = compact (length items) ++ flat_map string items

-- one stack for each input
abbrev pub stacks : List TxIn → List ℕ
stacks is = flat_map (λ i. stack i.witness) is

-- the form without marker, flag and witnesses
abbrev pub stripped_form : Tx → List ℕ
stripped_form t =
    to_le_bytes w32 t.version ++ inputs t.inputs ++ outputs t.outputs ++ to_le_bytes w32 t.lock

-- the form with them
abbrev pub extended_form : Tx → List ℕ
extended_form t =
    to_le_bytes w32 t.version ++ 0 ∷ 1 ∷ [] ++ inputs t.inputs ++ outputs t.outputs
    ++ stacks t.inputs ++ to_le_bytes w32 t.lock

-- a transaction
abbrev pub tx : Tx → List ℕ
tx t = if t.marked then extended_form t else stripped_form t

-- the 80 bytes of a header
abbrev pub header : Header → List ℕ
header h =
    to_le_bytes w32 h.version ++ h.previous ++ h.root ++ to_le_bytes w32 h.time
    ++ to_le_bytes w32 h.bits ++ to_le_bytes w32 h.nonce

-- the bytes of a block
unfoldable pub spell : Block → List ℕ
spell b = header b.header ++ (compact (length b.txs) ++ flat_map tx b.txs)

-- ---- what is lawful

-- the most satoshis that an output may have, and that a transaction's outputs may have together:
-- 21,000,000 coins
abbrev pub most_value : ℕ
most_value = 2100000000000000

-- the most bytes of a block
abbrev pub most_bytes : ℕ
most_bytes = block_limit

-- A byte string has a length that a compact size can tell.
abbrev pub FitsString : List ℕ → Type 0
FitsString bytes = length bytes < 2 ^ 64

-- The fields of an input have their widths.
pub record FitsInput (i : TxIn) : Type 0 where
  pub txid : length i.from.txid.0 ≡ 32
  pub index : i.from.index < 2 ^ 32
  pub script : FitsString i.script
  pub sequence : i.sequence < 2 ^ 32

-- So have those of an output.
pub record FitsOutput (o : TxOut) : Type 0 where
  pub value : o.value < 2 ^ 64
  pub script : FitsString o.script

abbrev pub FitsStack : List (List ℕ) → Type 0
FitsStack items = (length items < 2 ^ 64) × AllByRecursion FitsString items

-- an input has a witness where its stack is not empty
abbrev pub has_witness : TxIn → Bool
has_witness i = nat_lt 0 (length i.witness)

-- A transaction has an input and an output, its outputs have no more than all satoshis together,
-- and it is marked exactly where some stack of it is not empty.
pub record LawfulTx (t : Tx) : Type 0 where
  pub version : t.version < 2 ^ 32
  pub some_input : 0 < length t.inputs
  pub few_inputs : length t.inputs < 2 ^ 64
  pub inputs : AllByRecursion FitsInput t.inputs
  pub some_output : 0 < length t.outputs
  pub few_outputs : length t.outputs < 2 ^ 64
  pub outputs : AllByRecursion FitsOutput t.outputs
  pub values : sum_by (λ o. o.value) t.outputs ≤ most_value
  pub stacks : AllByRecursion (λ i. FitsStack i.witness) t.inputs
  pub marked : t.marked ≡ list_any has_witness t.inputs
  pub lock : t.lock < 2 ^ 32

-- The fields of a header have their widths.
pub record FitsHeader (h : Header) : Type 0 where
  pub version : h.version < 2 ^ 32
  pub previous : length h.previous ≡ 32
  pub root : length h.root ≡ 32
  pub time : h.time < 2 ^ 32
  pub bits : h.bits < 2 ^ 32
  pub nonce : h.nonce < 2 ^ 32

-- A block has a transaction, all of them are lawful, and it has at most 4,000,000 bytes.
pub record Lawful (b : Block) : Type 0 where
  pub header : FitsHeader b.header
  pub some_tx : 0 < length b.txs
  pub few_txs : length b.txs < 2 ^ 64
  pub txs : AllByRecursion LawfulTx b.txs
  pub size : length (spell b) ≤ most_bytes

-- The bytes are the block's.
abbrev pub Spells : List ℕ → Block → Type 0
Spells bytes b = Lawful b × (bytes ≡ spell b)
