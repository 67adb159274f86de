-- Which rows, changes and indexes have a spelling.
use Rattle.std.specs.Prelude.{ℕ, ◌<◌, ◌^◌, Bool, ◌&&◌, ◌||◌, IsTrue, List, length, map, All}
use Rattle.std.specs.Prelude.{IfSome, nat_le, nat_lt}
use Rattle.std.specs.List.Sorted.{IsStrictlySortedBy}
use Rattle.std.specs.FinMap.{entries, is_sorted}
use Rattle.std.specs.Ordering.{nat_cmp}
use Rattle.ox_block.specs.declared.block.OutPoint.{OutPoint}
use Rattle.ox_envelope.specs.declared.id.InsId.{InsId}
use Rattle.ox_rules.specs.declared.rows.OutRow.{OutRow}
use Rattle.ox_rules.specs.Outputs.{outpoint_cmp}
use Rattle.ox_inscribe.specs.declared.row.InsRow.{InsRow}
use Rattle.ox_runestone.specs.declared.stone.RuneId.{RuneId}
use Rattle.ox_runestone.specs.declared.stone.Terms.{Terms}
use Rattle.ox_allocation.specs.Balances.{AreBalances, Balance}
use Rattle.ox_etching.specs.declared.row.RuneRow.{RuneRow}
use Rattle.ox_ledger.specs.declared.part.CountChange.{CountChange}
use Rattle.ox_ledger.specs.Runes.{Placement}
use Rattle.ox_model.specs.Index.{Index}
use Rattle.ox_model.specs.declared.change.Change.{Change}
use Rattle.ox_rows.specs.Fits.{AreSats, FitsList, FitsSats, FitsText, IsHash}

-- some runes, ids rising, no amount 0
pub record AreHeld (balances : List Balance) : Type 0 where
  pub some : 0 < length balances
  pub proper : AreBalances balances

-- a Unicode scalar value
abbrev pub is_character : ℕ → Bool
is_character n = nat_lt n 55296 || (nat_le 57344 n && nat_lt n 1114112)

-- ---- ids

pub record FitsOutPoint (at : OutPoint) : Type 0 where
  pub txid : IsHash at.txid.0
  pub index : at.index < 2 ^ 32

pub record FitsInsId (id : InsId) : Type 0 where
  pub txid : IsHash id.txid
  pub index : id.index < 2 ^ 32

pub record FitsRuneId (id : RuneId) : Type 0 where
  pub block : id.block < 2 ^ 64
  pub tx : id.tx < 2 ^ 32

-- ---- rows

pub record FitsOutRow (row : OutRow) : Type 0 where
  pub script : FitsText row.script
  pub height : row.height < 2 ^ 32
  pub sats : FitsSats row.sats

abbrev pub FitsOutput : OutPoint × OutRow → Type 0
FitsOutput placed = FitsOutPoint placed.0 × FitsOutRow placed.1

pub record FitsInscription (row : InsRow) : Type 0 where
  pub id : FitsInsId row.id
  pub height : row.height < 2 ^ 32
  pub content_type : IfSome row.content_type FitsText
  pub body : IfSome row.body FitsText
  pub metadata : IfSome row.metadata FitsText
  pub metaprotocol : IfSome row.metaprotocol FitsText
  pub encoding : IfSome row.encoding FitsText
  pub delegate : IfSome row.delegate FitsInsId
  pub pointer : IfSome row.pointer FitsText
  pub parents : FitsList FitsInsId row.parents
  pub marks : row.marks < 2 ^ 16
  pub sat : IfSome row.sat (λ sat. sat < 2 ^ 64)

abbrev pub FitsBalance : Balance → Type 0
FitsBalance one = FitsRuneId one.0 × (one.1 < 2 ^ 128)

pub record FitsHeld (balances : List Balance) : Type 0 where
  pub held : AreHeld balances
  pub each : FitsList FitsBalance balances

abbrev pub FitsPlacement : Placement → Type 0
FitsPlacement placed = FitsOutPoint placed.0 × FitsHeld placed.1

pub record FitsTerms (terms : Terms) : Type 0 where
  pub amount : IfSome terms.amount (λ n. n < 2 ^ 128)
  pub cap : IfSome terms.cap (λ n. n < 2 ^ 128)
  pub height_start : IfSome terms.height_start (λ n. n < 2 ^ 64)
  pub height_end : IfSome terms.height_end (λ n. n < 2 ^ 64)
  pub offset_start : IfSome terms.offset_start (λ n. n < 2 ^ 64)
  pub offset_end : IfSome terms.offset_end (λ n. n < 2 ^ 64)

pub record FitsRune (row : RuneRow) : Type 0 where
  pub id : FitsRuneId row.id
  pub name : row.name < 2 ^ 128
  pub spacers : row.spacers < 2 ^ 32
  pub divisibility : row.divisibility < 2 ^ 8
  pub symbol : IfSome row.symbol (λ c. IsTrue (is_character c))
  pub premine : row.premine < 2 ^ 128
  pub terms : IfSome row.terms FitsTerms
  pub mints : row.mints < 2 ^ 128
  pub burned : row.burned < 2 ^ 128
  pub etching : IsHash row.etching.0

pub record FitsCountChange (c : CountChange) : Type 0 where
  pub place : c.place < 2 ^ 32
  pub mints_before : c.before.mints < 2 ^ 128
  pub mints_after : c.after.mints < 2 ^ 128
  pub burned_before : c.before.burned < 2 ^ 128
  pub burned_after : c.after.burned < 2 ^ 128

-- ---- lists by rising keys

pub record FitsOutputs (rows : List (OutPoint × OutRow)) : Type 0 where
  pub rising : IsTrue (is_sorted outpoint_cmp rows)
  pub each : FitsList FitsOutput rows

pub record FitsPlacements (rows : List Placement) : Type 0 where
  pub rising : IsTrue (is_sorted outpoint_cmp rows)
  pub each : FitsList FitsPlacement rows

pub record FitsCounts (counts : List CountChange) : Type 0 where
  pub rising : IsStrictlySortedBy nat_cmp (map (λ c. c.place) counts)
  pub each : FitsList FitsCountChange counts

-- ---- a change and an index

pub record FitsChange (c : Change) : Type 0 where
  pub hash : IsHash c.hash
  pub gone : FitsOutputs c.gone
  pub came : FitsOutputs c.came
  pub lost : FitsSats c.lost
  pub inscriptions : FitsList FitsInscription c.inscriptions
  pub before : FitsPlacements c.runes.before
  pub after : FitsPlacements c.runes.after
  pub counts : FitsCounts c.runes.counts
  pub appended : FitsList FitsRune c.runes.appended

pub record FitsIndex (i : Index) : Type 0 where
  pub hashes : FitsList IsHash i.hashes
  pub outs : FitsOutputs (entries i.outs)
  pub lost : FitsSats i.lost
  pub inscriptions : FitsList FitsInscription i.inscriptions
  pub bal : FitsPlacements (entries i.bal)
  pub runes : FitsList FitsRune i.runes

-- ---- what types don't say of a change and of an index

pub record KeepsOutputs (rows : List (OutPoint × OutRow)) : Type 0 where
  pub rising : IsTrue (is_sorted outpoint_cmp rows)
  pub sats : All (λ (placed : OutPoint × OutRow). AreSats placed.1.sats) rows

pub record KeepsPlacements (rows : List Placement) : Type 0 where
  pub rising : IsTrue (is_sorted outpoint_cmp rows)
  pub held : All (λ (placed : Placement). AreHeld placed.1) rows

-- keys rise, satoshis are in range, and no list of balances is empty
pub record KeepsChange (c : Change) : Type 0 where
  pub gone : KeepsOutputs c.gone
  pub came : KeepsOutputs c.came
  pub lost : AreSats c.lost
  pub before : KeepsPlacements c.runes.before
  pub after : KeepsPlacements c.runes.after
  pub counts : IsStrictlySortedBy nat_cmp (map (λ (c : CountChange). c.place) c.runes.counts)

pub record KeepsIndex (i : Index) : Type 0 where
  pub outs : KeepsOutputs (entries i.outs)
  pub lost : AreSats i.lost
  pub bal : KeepsPlacements (entries i.bal)
