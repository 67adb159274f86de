-- What a transaction and a block leave at outpoints (Runes specification, "Transferring"), said
-- without the steps of a turn.
use Rattle.std.specs.Prelude.{◌≡◌, ◌≢◌, ℕ, ◌<◌, Contains, List, ◌∷◌, None, Some, length}
use Rattle.std.specs.Prelude.{map, slice_get}
use Rattle.std.specs.FinMap.{get}
use Rattle.ox_block.specs.declared.block.OutPoint.{OutPoint}
use Rattle.ox_block.specs.declared.block.Tx.{Tx}
use Rattle.ox_sat.specs.declared.profiles.Profile.{Profile}
use Rattle.ox_rules.specs.declared.moved.MovedTx.{MovedTx}
use Rattle.ox_rules.specs.declared.rows.OutRow.{OutRow}
use Rattle.ox_allocation.specs.Allocation.{Allocation}
use Rattle.ox_allocation.specs.Balances.{Balance}
use Rattle.ox_etching.specs.declared.spot.Spot.{Spot}
use Rattle.ox_ledger.specs.Block.{runes_after, turn_all}
use Rattle.ox_ledger.specs.Runes.{Runes, artifact_at, balances_at, dealt_by, gathered_by, turn}

-- how a transaction deals the runes that it has in hand
abbrev pub dealt_at : Spot → Tx → List OutRow → Runes → Allocation
dealt_at at tx spent state =
    let artifact = artifact_at at tx in
    let hand = gathered_by at tx spent state artifact in
    dealt_by artifact hand.pool hand.etching tx.outputs

-- the outpoint of one of its inputs
abbrev pub IsSpent : Tx → OutPoint → Type 0
IsSpent tx o = Contains (map (λ input. input.from) tx.inputs) o

-- the outpoint of one of its outputs
abbrev pub IsMade : Spot → Tx → OutPoint → Type 0
IsMade at tx o = (o.txid ≡ at.txid) × (o.index < length tx.outputs)

-- What outpoints hold after a transaction at a place of its block.
pub record LeavesAt (at : Spot) (tx : Tx) (spent : List OutRow) (state : Runes) : Type 0 where
  -- each output is dealt a list of balances, which may be empty
  pub each : length (dealt_at at tx spent state).given ≡ length tx.outputs
  -- it holds these then
  pub made : at.tx ≢ 0 → (index : ℕ) (balances : List Balance)
      → slice_get (dealt_at at tx spent state).given index ≡ Some balances
      → balances_at (turn at tx spent state).bal (record { txid = at.txid; index = index })
      ≡ balances
  -- what it spent holds nothing
  pub gone : at.tx ≢ 0 → (o : OutPoint) → ¬ IsMade at tx o → IsSpent tx o
      → get (turn at tx spent state).bal o ≡ None
  -- no other outpoint changes
  pub others : at.tx ≢ 0 → (o : OutPoint) → ¬ IsMade at tx o → ¬ IsSpent tx o
      → get (turn at tx spent state).bal o ≡ get state.bal o
  -- before its block's end a coinbase changes none
  pub coinbase : at.tx ≡ 0 → (turn at tx spent state).bal ≡ state.bal

-- where a block's coinbase stands, by what it did with satoshis
abbrev pub first_spot : Profile → ℕ → MovedTx → Spot
first_spot p height did = record { profile = p; height = height; tx = 0; txid = did.txid }

-- What outpoints hold after a block with this coinbase, which begins where nothing is due.
pub record LeavesLast (p : Profile) (height : ℕ) (coinbase : Tx) (txs : List Tx) (did : MovedTx)
    (moved : List MovedTx) (state : Runes) : Type 0 where
  -- the coinbase's outputs hold what was dealt to each when the block began
  pub made : (index : ℕ) (balances : List Balance)
      → slice_get (dealt_at (first_spot p height did) coinbase did.spent state).given index
      ≡ Some balances
      → balances_at (runes_after p height (coinbase ∷ txs) (did ∷ moved) state).bal
      (record { txid = did.txid; index = index })
      ≡ balances
  -- any other holds what it held behind the last transaction
  pub others : (o : OutPoint) → ¬ IsMade (first_spot p height did) coinbase o
      → get (runes_after p height (coinbase ∷ txs) (did ∷ moved) state).bal o
      ≡ get (turn_all p height 0 (coinbase ∷ txs) (did ∷ moved) state).bal o
