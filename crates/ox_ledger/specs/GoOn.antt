-- What no block changes of the runes that there were.
use Rattle.std.specs.Prelude.{ℕ, List}
use Rattle.ox_block.specs.declared.block.Tx.{Tx}
use Rattle.ox_sat.specs.declared.profiles.Profile.{Profile}
use Rattle.ox_rules.specs.declared.moved.MovedTx.{MovedTx}
use Rattle.ox_rules.specs.declared.rows.OutRow.{OutRow}
use Rattle.ox_etching.specs.declared.spot.Spot.{Spot}
use Rattle.ox_etching.specs.declared.row.RuneRow.{RuneRow}
use Rattle.ox_ledger.specs.Block.{runes_after}
use Rattle.ox_ledger.specs.Part.{Continues}
use Rattle.ox_ledger.specs.Runes.{Runes, end, turn}

-- Runes go on over a transaction, over the end of a block and over a whole block: those that there
-- were stay in their places, as they were but for what is counted of them. So they do over several.
pub record RunesGoOn : Type 0 where
  pub turn : (at : Spot) (tx : Tx) (spent : List OutRow) (state : Runes)
      → Continues state.runes (turn at tx spent state).runes
  pub end : (state : Runes) → Continues state.runes (end state).runes
  pub block : (p : Profile) (height : ℕ) (txs : List Tx) (moved : List MovedTx) (state : Runes)
      → Continues state.runes (runes_after p height txs moved state).runes
  pub on : (before mid after : List RuneRow) → Continues before mid → Continues mid after
      → Continues before after
