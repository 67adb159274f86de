-- The blocks that are made: a chain of regtest in which each block follows from its height, the
-- hash of the block before, and the id of that block's coinbase.
use Rattle.std.specs.Prelude.{ℕ, zero, suc, ◌-◌, ◌%◌, ◌==◌, if◌then◌else◌, List, [], ◌∷◌, ◌++◌}
use Rattle.std.specs.Prelude.{length, replicate, decimal, codes, true, false}
use Rattle.std.specs.Int.{w32, to_le_bytes}
use Rattle.ox_sat.specs.Heights.{subsidy_at}
use Rattle.ox_sat.specs.Profiles.{profile_named}
use Rattle.ox_sat.specs.declared.profiles.ProfileName.TheVariants.{Regtest}
use Rattle.ox_block.specs.Commitment.{committing}
use Rattle.ox_block.specs.Hashes.{block_root}
use Rattle.ox_block.specs.declared.block.Block.{Block}
use Rattle.ox_block.specs.declared.block.Header.{Header}
use Rattle.ox_block.specs.declared.block.OutPoint.{OutPoint}
use Rattle.ox_block.specs.declared.block.Tx.{Tx}
use Rattle.ox_block.specs.declared.block.TxOut.{TxOut}

-- ---- parts of both transactions

-- OP_1, which anybody may spend
abbrev pub open_script : List ℕ
open_script = 0x51 ∷ []

abbrev pub zeros : List ℕ
zeros = replicate 32 0

-- a transaction of one input, of version 2
abbrev pub made_tx : OutPoint → List ℕ → List (List ℕ) → List TxOut → Tx
made_tx from script witness outputs = record {
  version = 2;
  marked = (if length witness == 0 then false else true);
  inputs = record { from = from; script = script; sequence = 0; witness = witness } ∷ [];
  outputs = outputs;
  lock = 0;
}

-- what a coinbase claims: all that its block mints but for one satoshi
abbrev pub claim : ℕ → ℕ
claim height = subsidy_at (profile_named Regtest) height - 1

-- ---- the coinbase

-- no output
abbrev pub nothing : OutPoint
nothing = record { txid = record { 0 = zeros }; index = 4294967295 }

-- its script has the height, so that no two have one id (BIP 34)
abbrev pub height_script : ℕ → List ℕ
height_script height = 4 ∷ to_le_bytes w32 height

-- the coinbase as it is before it commits to witnesses
abbrev pub coinbase : ℕ → Tx
coinbase height =
    made_tx nothing (height_script height) []
    (record { value = claim height; script = open_script } ∷ [])

-- ---- the other transaction

-- An inscription of the height's decimal digits, as text: OP_FALSE OP_IF "ord", the content type
-- under tag 1, an empty push before the body, OP_ENDIF.
abbrev pub tapscript : ℕ → List ℕ
tapscript height =
    0x00 ∷ 0x63 ∷ 3 ∷ codes "ord" ++ 1 ∷ 1 ∷ 10 ∷ codes "text/plain" ++ 0x00 ∷ []
    ++ length (decimal height) ∷ decimal height ++ 0x68 ∷ []

-- what stands for a control block: a leaf version, and a key of zeros
abbrev pub control : List ℕ
control = 0xc0 ∷ zeros

-- A runestone. At height 1 it etches a rune with a premine of 100, of which 7 may be minted
-- 1,000,000 times; its id is 1:1.
abbrev pub etching : List ℕ
etching = 0x6a ∷ 0x5d ∷ 10 ∷ 2 ∷ 3 ∷ 6 ∷ 100 ∷ 8 ∷ 0xc0 ∷ 0x84 ∷ 0x3d ∷ 10 ∷ 7 ∷ []

-- later it mints that rune
abbrev pub mint : List ℕ
mint = 0x6a ∷ 0x5d ∷ 4 ∷ 20 ∷ 1 ∷ 20 ∷ 1 ∷ []

-- and at each tenth height it is a cenotaph, by a field of an unknown even tag, so that the mint
-- burns
abbrev pub cenotaph : List ℕ
cenotaph = 0x6a ∷ 0x5d ∷ 6 ∷ 20 ∷ 1 ∷ 20 ∷ 1 ∷ 126 ∷ 0 ∷ []

abbrev pub runestone : ℕ → List ℕ
runestone height =
    if height == 1 then etching else if height % 10 == 0 then cenotaph else mint

-- It spends what the coinbase before claimed, reveals an inscription, and carries a runestone.
abbrev pub spend : ℕ → OutPoint → Tx
spend height paid =
    made_tx paid [] (tapscript height ∷ control ∷ [])
    (record { value = claim (height - 1); script = open_script }
    ∷ record { value = 0; script = runestone height } ∷ [])

-- ---- the block

-- the transactions behind the coinbase: none in the first block
abbrev pub others : ℕ → OutPoint → List Tx
others zero paid = []
others (suc before) paid = spend (suc before) paid ∷ []

-- the header, before it has a root
abbrev pub bare_header : ℕ → List ℕ → Header
bare_header height tip =
    record { version = 1; previous = tip; root = zeros; time = height; bits = 0; nonce = 0 }

-- a block with the root of its transactions' ids in its header
abbrev pub rooted : Block → Block
rooted block = record block { header = record block.header { root = block_root block } }

-- The block of this height behind the block of this hash, whose coinbase has this id. It commits to
-- its witnesses by a reserved value of zeros.
abbrev pub made_block : ℕ → List ℕ → List ℕ → Block
made_block height tip paid =
    rooted (committing zeros (record {
      header = bare_header height tip;
      txs = coinbase height ∷ others height (record { txid = record { 0 = paid }; index = 0 });
    }))
