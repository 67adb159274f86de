-- What new inscriptions have to do with the transactions of their block.
use Rattle.std.specs.Prelude.{◌≡◌, ◌≢◌, ℕ, ◌+◌, ◌%◌, Bool, ◌||◌, List, [], ◌∷◌, ◌++◌, length, take}
use Rattle.std.specs.Prelude.{drop, map, slice_get, Some, None, is_none, IfSome, All}
use Rattle.std.specs.Prelude.{Contains, ◌==◌}
use Rattle.std.specs.List.{AllPairs, flat_map}
use Rattle.ox_block.specs.declared.block.Tx.{Tx}
use Rattle.ox_block.specs.declared.block.TxIn.{TxIn}
use Rattle.ox_envelope.specs.declared.id.InsId.{InsId}
use Rattle.ox_envelope.specs.declared.inscribed.Inscribed.{Inscribed}
use Rattle.ox_rules.specs.Outputs.{sats_of}
use Rattle.ox_rules.specs.Transfer.{txid_of}
use Rattle.ox_rules.specs.declared.moved.MovedTx.{MovedTx}
use Rattle.ox_rules.specs.declared.rows.OutRow.{OutRow}
use Rattle.ox_inscribe.specs.Inscriptions.{find}
use Rattle.ox_inscribe.specs.Reveal.{said_by, rows_of, revealed_by_all, revealing_all, reveal_of}
use Rattle.ox_inscribe.specs.declared.row.InsRow.{InsRow}

-- an envelope of a transaction: the place of its input, and what it says
pub record Saying : Type 0 where
  pub input : ℕ
  pub says : Inscribed

-- the envelopes of inputs in order, the first input at this place
unfoldable pub sayings_from : ℕ → List TxIn → List Saying
sayings_from place [] = []
sayings_from place (input ∷ inputs) =
    map (λ says. record { input = place; says = says }) (said_by input)
    ++ sayings_from (place + 1) inputs

abbrev pub sayings_of : Tx → List Saying
sayings_of tx = sayings_from 0 tx.inputs

-- what a row has of its envelope alone: not its parents, its marks and its satoshi
abbrev pub bare : InsRow → InsRow
bare row = record row { parents = []; marks = 0; sat = None }

abbrev pub bare_row : ℕ → InsId → Inscribed → InsRow
bare_row height id says = record {
  id = id;
  height = height;
  content_type = says.content_type;
  body = says.body;
  metadata = says.metadata;
  metaprotocol = says.metaprotocol;
  encoding = says.encoding;
  pointer = says.pointer;
  delegate = says.delegate;
  parents = [];
  marks = 0;
  sat = None;
}

-- that of each envelope of a transaction with this id, the first of them having this index
unfoldable pub bare_rows_from : ℕ → List ℕ → ℕ → List Saying → List InsRow
bare_rows_from height txid index [] = []
bare_rows_from height txid index (saying ∷ sayings) =
    bare_row height (record { txid = txid; index = index }) saying.says
    ∷ bare_rows_from height txid (index + 1) sayings

-- that of each envelope of a block of these transactions; a coinbase has none
abbrev pub bare_rows_of : ℕ → List Tx → List InsRow
bare_rows_of height txs =
    flat_map (λ tx. bare_rows_from height (txid_of tx).0 0 (sayings_of tx)) (drop 1 txs)

-- where a row comes from
pub record Origin : Type 0 where
  -- the transaction's place behind the coinbase, the transaction, and what it did
  pub place : ℕ
  pub tx : Tx
  pub did : MovedTx
  -- the envelope, and the row that its input spends
  pub saying : Saying
  pub spends : OutRow

-- in a block of these transactions it comes from there: its id says which envelope is its own
pub record ComesFrom (txs : List Tx) (moved : List MovedTx) (origin : Origin) (row : InsRow)
    : Type 0 where
  pub tx : slice_get (drop 1 txs) origin.place ≡ Some origin.tx
  pub did : slice_get (drop 1 moved) origin.place ≡ Some origin.did
  pub txid : row.id.txid ≡ (txid_of origin.tx).0
  pub saying : slice_get (sayings_of origin.tx) row.id.index ≡ Some origin.saying
  pub spends : slice_get origin.did.spent origin.saying.input ≡ Some origin.spends

-- this holds of each row that the block reveals, at where it comes from
abbrev pub AllRevealed : (Origin → InsRow → Type 0) → List InsRow → ℕ → List Tx → List MovedTx
    → Type 0
AllRevealed P rows height txs moved =
    All (λ row. (origin : Origin) × ComesFrom txs moved origin row × P origin row)
    (reveal_of rows height txs moved)

-- the envelope has an unknown even tag, or its input has no satoshis
abbrev pub is_unbound_at : Origin → Bool
is_unbound_at origin =
    (origin.saying.says.marks % 2 == 1) || (length origin.spends.sats == 0)

-- an unbound row is on no satoshi; any other is on one that its transaction's inputs held
pub record IsPlaced (origin : Origin) (row : InsRow) : Type 0 where
  pub unbound : is_none row.sat ≡ is_unbound_at origin
  pub held : IfSome row.sat (λ sat. Contains (sats_of origin.did.spent) sat)

-- the rows before a transaction at a place behind the coinbase: those before the block, and those
-- of the block's transactions before it
abbrev pub rows_before : List InsRow → ℕ → List Tx → List MovedTx → ℕ → List InsRow
rows_before rows height txs moved place =
    rows ++ rows_of
    (revealed_by_all rows (take place (revealing_all height (drop 1 txs) (drop 1 moved))))

-- the envelope names this id, and the first row that had it before the transaction was on a satoshi
-- of the transaction's inputs
pub record IsParent (before : List InsRow) (origin : Origin) (id : InsId) : Type 0 where
  pub named : Contains origin.saying.says.parents id
  pub number : ℕ
  pub row : InsRow
  pub sat : ℕ
  pub first : find before id ≡ Some number
  pub there : slice_get before number ≡ Some row
  pub on : row.sat ≡ Some sat
  pub held : Contains (sats_of origin.did.spent) sat

-- a row's parents are all such ids, each once, and no others
pub record HasParents (before : List InsRow) (origin : Origin) (row : InsRow) : Type 0 where
  pub once : AllPairs (λ one other. one ≢ other) row.parents
  pub only : All (IsParent before origin) row.parents
  pub each : (id : InsId) → IsParent before origin id → Contains row.parents id
