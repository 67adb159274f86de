-- What the blocks of a chain leave.
use Rattle.std.specs.Prelude.{ℕ, List, []}
use Rattle.std.specs.FinMap.{empty}
use Rattle.ox_sat.specs.declared.profiles.Profile.{Profile}
use Rattle.ox_rules.specs.Outputs.{Outputs}
use Rattle.ox_inscribe.specs.declared.row.InsRow.{InsRow}
use Rattle.ox_etching.specs.declared.row.RuneRow.{RuneRow}
use Rattle.ox_ledger.specs.Block.{no_runes}
use Rattle.ox_ledger.specs.Runes.{BalanceMap, Runes}

pub record Index : Type 0 where
  -- the blocks' hashes, by height, each as serialized
  pub hashes : List (List ℕ)
  -- the unspent outputs
  pub outs : Outputs
  -- the satoshis that no output holds any more, in the order in which they were lost
  pub lost : List ℕ
  -- the inscriptions, by their numbers
  pub inscriptions : List InsRow
  -- what outputs hold of runes
  pub bal : BalanceMap
  -- the runes, by their etchings
  pub runes : List RuneRow

-- the runes and balances of an index; between two blocks nothing is due to a coinbase
abbrev pub runes_of : Index → Runes
runes_of index = record { bal = index.bal; runes = index.runes; due = [] }

-- before the first block: mainnet has a rune from the start
abbrev pub no_blocks : Profile → Index
no_blocks p = record {
  hashes = [];
  outs = empty;
  lost = [];
  inscriptions = [];
  bal = (no_runes p).bal;
  runes = (no_runes p).runes;
}
