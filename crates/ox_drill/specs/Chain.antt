-- A chain of made blocks, the commands by which it is connected, taken back a little and connected
-- again, and where commands lead that are all accepted.
use Rattle.std.specs.Prelude.{◌≡◌, ℕ, zero, suc, ◌+◌, ◌-◌, min, List, [], ◌∷◌, ◌++◌, map, drop}
use Rattle.std.specs.Prelude.{replicate, Ok}
use Rattle.ox_feed.specs.declared.command.Command.{Command}
use Rattle.ox_feed.specs.declared.command.Command.TheVariants.{Connect, Disconnect}
use Rattle.ox_block.specs.Hashes.{block_hash, txid}
use Rattle.ox_block.specs.Spelling.{spell}
use Rattle.ox_block.specs.declared.block.Block.{Block}
use Rattle.ox_block.specs.declared.block.Tx.{Tx}
use Rattle.ox_gen.specs.Made.{made_block, zeros}
use Rattle.ox_sat.specs.Profiles.{profile_named}
use Rattle.ox_sat.specs.declared.profiles.ProfileName.TheVariants.{Regtest}
use Rattle.ox_model.specs.Machine.{Machine, empty_machine, turn_by_command}

-- the id of the coinbase, which is a block's first transaction
abbrev pub coinbase_id : List Tx → List ℕ
coinbase_id [] = []
coinbase_id (coinbase ∷ txs) = txid coinbase

-- the made block of a height, behind that of the height before
unfoldable pub drill_block : ℕ → Block
drill_block zero = made_block 0 zeros zeros
drill_block (suc height) =
    let before = drill_block height in
    made_block (suc height) (block_hash before.header) (coinbase_id before.txs)

-- the bytes of the first so many, by height
unfoldable pub drill_chain : ℕ → List (List ℕ)
drill_chain zero = []
drill_chain (suc height) = drill_chain height ++ spell (drill_block height) ∷ []

-- the bytes of so many from a height on
unfoldable pub blocks_from : ℕ → ℕ → List (List ℕ)
blocks_from height zero = []
blocks_from height (suc more) =
    blocks_from height more ++ spell (drill_block (height + more)) ∷ []

-- the commands that connect these blocks
abbrev pub connects : List (List ℕ) → List Command
connects blocks = map (λ bytes. Connect bytes) blocks

-- All blocks are connected; of the newest up to ten are disconnected, and connected again.
abbrev pub drill_commands : ℕ → List Command
drill_commands n =
    let newest = min n 10 in
    connects (drill_chain n) ++ replicate newest Disconnect
    ++ connects (drop (n - newest) (drill_chain n))

-- regtest's machine without a block, which keeps up to a hundred
abbrev pub drill_start : Machine
drill_start = empty_machine (profile_named Regtest) 100

-- that machine with so many made blocks, of which it keeps as many as it may
abbrev pub drilled : ℕ → Machine
drilled n = record drill_start { blocks = drill_chain n; kept = min n 100 }

-- Each of these commands is accepted, and together they lead from this machine to that one.
abbrev pub AllAccepted : Machine → List Command → Machine → Type 0
AllAccepted machine [] end = machine ≡ end
AllAccepted machine (command ∷ commands) end =
    (next : Machine) × (turn_by_command machine command ≡ Ok next) × AllAccepted next commands end
