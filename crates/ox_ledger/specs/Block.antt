-- What a whole block does to runes, and the runes that are there before the first.
use Rattle.std.specs.Prelude.{◌≡◌, ◌≢◌, ℕ, ◌+◌, ◌-◌, ◌^◌, ◌<◌, ◌≤◌, All, List, [], ◌∷◌, length}
use Rattle.std.specs.Prelude.{Some, None, replicate}
use Rattle.std.specs.Prelude.{if◌then◌else◌}
use Rattle.std.specs.FinMap.{empty}
use Rattle.ox_block.specs.declared.block.Tx.{Tx}
use Rattle.ox_runestone.specs.declared.stone.Terms.{Terms}
use Rattle.ox_sat.specs.declared.profiles.Profile.{Profile}
use Rattle.ox_rules.specs.declared.moved.MovedTx.{MovedTx}
use Rattle.ox_rules.specs.declared.rows.OutRow.{OutRow}
use Rattle.ox_etching.specs.declared.row.RuneRow.{RuneRow}
use Rattle.ox_etching.specs.declared.spot.Spot.{Spot}
use Rattle.ox_ledger.specs.Balanced.{Balanced}
use Rattle.ox_ledger.specs.Runes.{Runes, end, turn}
use Rattle.ox_ledger.specs.Turn.{IsFree}

-- the transaction at a place of a block, by what it did with satoshis
abbrev pub turn_at : Profile → ℕ → ℕ → Tx → MovedTx → Runes → Runes
turn_at p height place tx moved state =
    turn (record { profile = p; height = height; tx = place; txid = moved.txid }) tx moved.spent
    state

-- transactions in block order, the first of them at this place
unfoldable pub turn_all : Profile → ℕ → ℕ → List Tx → List MovedTx → Runes → Runes
turn_all p height place (tx ∷ txs) (moved ∷ more) state =
    turn_all p height (place + 1) txs more (turn_at p height place tx moved state)
turn_all p height place _ _ state = state

-- the runes after a block of this height, by what its transactions did with satoshis
abbrev pub runes_after : Profile → ℕ → List Tx → List MovedTx → Runes → Runes
runes_after p height txs moved state = end (turn_all p height 0 txs moved state)

-- the terms of mainnet's first rune
abbrev pub first_terms : Terms
first_terms = record {
  amount = Some 1;
  cap = Some (2 ^ 128 - 1);
  height_start = Some 840000;
  height_end = Some 1050000;
  offset_start = None;
  offset_end = None;
}

-- UNCOMMON•GOODS, which is there from the start of mainnet: Runes specification, "Genesis Rune"
abbrev pub first_rune : RuneRow
first_rune = record {
  id = record { block = 1; tx = 0 };
  name = 2055900680524219742;
  spacers = 128;
  divisibility = 0;
  symbol = Some 0x29c9;
  premine = 0;
  terms = Some first_terms;
  mints = 0;
  burned = 0;
  etching = record { 0 = replicate 32 0 };
}

-- the runes of a chain without a block
abbrev pub no_runes : Profile → Runes
no_runes p = record {
  bal = empty;
  runes = if p.first_rune then first_rune ∷ [] else [];
  due = [];
}

-- A chain begins with a balanced state. A transaction leaves such a state balanced, and so does a
-- block, which leaves nothing due. From the height on at which runes start, no rune may
-- have the id of the transaction's place, and none may be of the block's height.
pub record StaysBalanced : Type 0 where
  pub start : (p : Profile) → Balanced (no_runes p)
  pub turn : (at : Spot) (tx : Tx) (spent : List OutRow) (state : Runes) → at.tx < 2 ^ 32
      → Balanced state → IsFree at state.runes → Balanced (turn at tx spent state)
  pub block : (p : Profile) (height : ℕ) (txs : List Tx) (moved : List MovedTx) (state : Runes)
      → length txs ≤ 2 ^ 32 → Balanced state
      → (p.rune_start ≤ height → All (λ row. row.id.block ≢ height) state.runes)
      → Balanced (runes_after p height txs moved state)
  pub due : (p : Profile) (height : ℕ) (txs : List Tx) (moved : List MovedTx) (state : Runes)
      → (runes_after p height txs moved state).due ≡ []
