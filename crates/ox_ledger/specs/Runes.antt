-- What a block does to runes: Runes specification, "Runestones", "Etching", "Minting" and
-- "Transferring".
use Rattle.std.specs.Prelude.{ℕ, ◌+◌, Bool, false, List, [], ◌∷◌, ◌++◌, length, map}
use Rattle.std.specs.Prelude.{Option, Some, None, option_and_then, unwrap_or, ◌==◌}
use Rattle.std.specs.Prelude.{nat_lt, if◌then◌else◌}
use Rattle.std.specs.FinMap.{FinMap, get, insert, remove}
use Rattle.std.specs.List.{list_any}
use Rattle.std.specs.Option.{option_map, option_map_or}
use Rattle.ox_block.specs.declared.block.OutPoint.{OutPoint}
use Rattle.ox_block.specs.declared.block.Tx.{Tx}
use Rattle.ox_block.specs.declared.block.TxIn.{TxIn}
use Rattle.ox_block.specs.declared.block.TxOut.{TxOut}
use Rattle.ox_block.specs.declared.block.Txid.{Txid}
use Rattle.ox_runestone.specs.Artifact.{artifact_of}
use Rattle.ox_runestone.specs.Payload.{is_stone}
use Rattle.ox_runestone.specs.declared.stone.Artifact.{Artifact}
use Rattle.ox_runestone.specs.declared.stone.Artifact.TheVariants.{Stone, Cenotaph}
use Rattle.ox_runestone.specs.declared.stone.RuneId.{RuneId}
use Rattle.ox_allocation.specs.Allocation.{Allocation, allocation_of}
use Rattle.ox_allocation.specs.Balances.{Balance, amount_in, is_same, with_more}
use Rattle.ox_etching.specs.declared.spot.Spot.{Spot}
use Rattle.ox_etching.specs.Etched.{etched}
use Rattle.ox_etching.specs.Minted.{minted}
use Rattle.ox_etching.specs.declared.row.RuneRow.{RuneRow}
use Rattle.ox_rules.specs.Outputs.{outpoint_cmp}
use Rattle.ox_rules.specs.Transfer.{as_list}
use Rattle.ox_rules.specs.declared.rows.OutRow.{OutRow}

-- the balances of outputs
abbrev pub BalanceMap : Type 0
BalanceMap = FinMap outpoint_cmp (List Balance)

-- the balances of an output that is made
abbrev pub Placement : Type 0
Placement = OutPoint × List Balance

-- The runes of a chain, in the midst of a block: what outputs hold, all runes by their etchings,
-- and what the block's coinbase is still to place.
pub record Runes : Type 0 where
  pub bal : BalanceMap
  pub runes : List RuneRow
  pub due : List Placement

abbrev pub balances_at : BalanceMap → OutPoint → List Balance
balances_at bal at = unwrap_or (get bal at) []

-- an output with balances; no output has an empty list
abbrev pub with_balances : BalanceMap → OutPoint → List Balance → BalanceMap
with_balances bal at [] = remove bal at
with_balances bal at (one ∷ balances) = insert bal at (one ∷ balances)

-- so much more of each rune is burned
abbrev pub burn_of : List Balance → RuneRow → RuneRow
burn_of balances row = record row { burned = row.burned + amount_in balances row.id }

abbrev pub burn : List Balance → List RuneRow → List RuneRow
burn balances runes = map (burn_of balances) runes

-- an output is made: what still stands at its outpoint burns, even where nothing new comes
abbrev pub place : Runes → Placement → Runes
place state new = record {
  bal = with_balances state.bal new.0 new.1;
  runes = burn (balances_at state.bal new.0) state.runes;
  due = state.due;
}

unfoldable pub place_all : Runes → List Placement → Runes
place_all state [] = state
place_all state (new ∷ more) = place_all (place state new) more

-- balances and others, rune by rune
unfoldable pub joined_with : List Balance → List Balance → List Balance
joined_with balances [] = balances
joined_with balances (one ∷ more) = joined_with (with_more balances one.0 one.1) more

-- what some inputs bring, and the balances without theirs
pub record Brought : Type 0 where
  pub pool : List Balance
  pub bal : BalanceMap

unfoldable pub brought_by : List TxIn → BalanceMap → List Balance → Brought
brought_by [] bal pool = record { pool = pool; bal = bal }
brought_by (input ∷ inputs) bal pool =
    brought_by inputs (remove bal input.from) (joined_with pool (balances_at bal input.from))

-- a coinbase's input brings nothing
abbrev pub brought_of : ℕ → Tx → BalanceMap → Brought
brought_of place tx bal =
    if place == 0 then record { pool = []; bal = bal } else brought_by tx.inputs bal []

-- the first output's script that is a runestone's
unfoldable pub stone_in : List TxOut → Option (List ℕ)
stone_in [] = None
stone_in (output ∷ outputs) =
    if is_stone output.script then Some output.script else stone_in outputs

-- the runestone of a transaction; before the height at which runes start it is not read
abbrev pub artifact_at : Spot → Tx → Option Artifact
artifact_at at tx =
    if nat_lt at.height at.profile.rune_start then None
    else option_map (λ script. artifact_of script (length tx.outputs)) (stone_in tx.outputs)

-- the rune with an id
unfoldable pub by_id : List RuneRow → RuneId → Option RuneRow
by_id [] id = None
by_id (row ∷ runes) id = if is_same row.id id then Some row else by_id runes id

abbrev pub is_taken : List RuneRow → ℕ → Bool
is_taken runes name = list_any (λ row. row.name == name) runes

-- the rune that an artifact mints, and the name that it etches
abbrev pub mint_of : Artifact → Option RuneId
mint_of (Stone stone) = stone.mint
mint_of (Cenotaph mint name) = mint

abbrev pub name_of : Artifact → Option ℕ
name_of (Stone stone) = option_and_then (λ etching. etching.name) stone.etching
name_of (Cenotaph mint name) = name

-- a mint: the rune and its amount, where that rune's mint is open
abbrev pub mint_at : ℕ → List RuneRow → Option RuneId → Option Balance
mint_at height runes None = None
mint_at height runes (Some id) =
    option_map (λ amount. (id, amount))
    (option_and_then (λ row. minted row height) (by_id runes id))

-- one more mint of the rune with this id
abbrev pub mint_more : RuneId → RuneRow → RuneRow
mint_more id row = if is_same row.id id then record row { mints = row.mints + 1 } else row

abbrev pub with_mint : List RuneRow → Option Balance → List RuneRow
with_mint runes None = runes
with_mint runes (Some mint) = map (mint_more mint.0) runes

-- a pool with one balance more, where there is one
abbrev pub pool_with : List Balance → Option Balance → List Balance
pool_with pool None = pool
pool_with pool (Some one) = with_more pool one.0 one.1

-- a new rune and its premine
abbrev pub premine_of : RuneRow → Balance
premine_of row = (row.id, row.premine)

-- how a transaction deals its pool: by its runestone; without one to the first output that can hold
-- runes
abbrev pub dealt_by : Option Artifact → List Balance → Option RuneId → List TxOut → Allocation
dealt_by None pool etching outputs = allocation_of pool [] None None outputs
dealt_by (Some (Stone stone)) pool etching outputs =
    allocation_of pool stone.edicts etching stone.pointer outputs
dealt_by (Some (Cenotaph mint name)) pool etching outputs =
    record { given = map (λ output. []) outputs; burned = pool }

-- the placements of outputs from an index on
unfoldable pub placements : Txid → ℕ → List (List Balance) → List Placement
placements txid index [] = []
placements txid index (balances ∷ given) =
    (record { txid = txid; index = index }, balances) ∷ placements txid (index + 1) given

-- what a transaction has in hand: the runes that it brings, mints and etches, and the rows with its
-- mint and etching
pub record InHand : Type 0 where
  pub pool : List Balance
  pub bal : BalanceMap
  pub runes : List RuneRow
  pub etching : Option RuneId

-- Mint and etching go by the runes as they were. The mint counts, and it and the premine join what
-- the inputs bring.
abbrev pub in_hand : Brought → List RuneRow → Option Balance → Option RuneRow → InHand
in_hand brought runes mint etching = record {
  pool = pool_with (pool_with brought.pool mint) (option_map premine_of etching);
  bal = brought.bal;
  runes = with_mint runes mint ++ as_list etching;
  etching = option_map (λ row. row.id) etching;
}

-- the mint of a transaction with this artifact
abbrev pub mint_by : ℕ → List RuneRow → Option Artifact → Option Balance
mint_by height runes artifact = mint_at height runes (option_and_then mint_of artifact)

-- the rune that it etches
abbrev pub etching_by : Spot → Tx → List OutRow → List RuneRow → Option Artifact → Option RuneRow
etching_by at tx spent runes artifact =
    option_and_then
    (λ a. etched at tx spent a (option_map_or (is_taken runes) (name_of a) false)) artifact

abbrev pub gathered_by : Spot → Tx → List OutRow → Runes → Option Artifact → InHand
gathered_by at tx spent state artifact =
    in_hand (brought_of at.tx tx state.bal) state.runes (mint_by at.height state.runes artifact)
    (etching_by at tx spent state.runes artifact)

-- The outputs get what is dealt to them; those of a coinbase when the block is done.
abbrev pub settled_by : Spot → List Placement → InHand → Allocation → List Placement → Runes
settled_by at due hand dealt new =
    let runes = burn dealt.burned hand.runes in
    if at.tx == 0 then record { bal = hand.bal; runes = runes; due = due ++ new }
    else place_all (record { bal = hand.bal; runes = runes; due = due }) new

abbrev pub done_by : Spot → Tx → List Placement → Option Artifact → InHand → Runes
done_by at tx due artifact hand =
    let dealt = dealt_by artifact hand.pool hand.etching tx.outputs in
    settled_by at due hand dealt (placements at.txid 0 dealt.given)

-- one transaction, which spends these rows
abbrev pub turn : Spot → Tx → List OutRow → Runes → Runes
turn at tx spent state =
    let artifact = artifact_at at tx in
    done_by at tx state.due artifact (gathered_by at tx spent state artifact)

-- the end of a block: what is due to its coinbase's outputs is placed
abbrev pub end : Runes → Runes
end state = place_all (record { bal = state.bal; runes = state.runes; due = [] }) state.due
