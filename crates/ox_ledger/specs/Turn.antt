-- What one transaction adds to runes: its open mint's amount, and its etching's premine.
use Rattle.std.specs.Prelude.{◌≡◌, ◌≢◌, ℕ, ◌+◌, ◌≤◌, List, ◌++◌, All, Option, Some, None}
use Rattle.std.specs.Prelude.{if◌then◌else◌}
use Rattle.std.specs.List.{AllZip}
use Rattle.ox_block.specs.declared.block.Tx.{Tx}
use Rattle.ox_runestone.specs.declared.stone.RuneId.{RuneId}
use Rattle.ox_rules.specs.Transfer.{as_list}
use Rattle.ox_rules.specs.declared.rows.OutRow.{OutRow}
use Rattle.ox_allocation.specs.Balances.{Balance, amount_in, is_same}
use Rattle.ox_etching.specs.declared.spot.Spot.{Spot}
use Rattle.ox_etching.specs.Etched.{id_of}
use Rattle.ox_etching.specs.declared.row.RuneRow.{RuneRow}
use Rattle.ox_ledger.specs.Balanced.{Balanced, amount_there}
use Rattle.ox_ledger.specs.Part.{counts_of, with_counts}
use Rattle.ox_ledger.specs.Runes.{Runes, artifact_at, etching_by, mint_by, turn}

-- no rune has this id
abbrev pub NoneHas : RuneId → List RuneRow → Type 0
NoneHas id runes = All (λ (row : RuneRow). row.id ≢ id) runes

-- where runes are etched, no rune has the id of a transaction's place
abbrev pub IsFree : Spot → List RuneRow → Type 0
IsFree at runes = at.profile.rune_start ≤ at.height → NoneHas (id_of at) runes

-- how many mints of a rune these are
abbrev pub mints_in : Option Balance → RuneId → ℕ
mints_in None id = 0
mints_in (Some mint) id = if is_same id mint.0 then 1 else 0

-- A rune that was there: there is more of it by the mint's amount, which counts, and all else of it
-- stays.
pub record Grows (mint : Option Balance) (before after : Runes) (old new : RuneRow) : Type 0 where
  pub stays : new ≡ with_counts old (counts_of new)
  pub mints : new.mints ≡ old.mints + mints_in mint old.id
  pub amount :
      amount_there after new ≡ amount_there before old + amount_in (as_list mint) old.id

-- A rune that is new: there is its premine, and all else is as it was etched.
pub record Begins (after : Runes) (etched new : RuneRow) : Type 0 where
  pub stays : new ≡ with_counts etched (counts_of new)
  pub mints : new.mints ≡ 0
  pub amount : amount_there after new ≡ etched.premine

-- each rune that was there grows by the mint, and the one that is etched, if any, comes last
pub record Adds (mint : Option Balance) (etching : Option RuneRow) (before after : Runes) : Type 0
  where
    pub earlier : List RuneRow
    pub last : List RuneRow
    pub runes : after.runes ≡ earlier ++ last
    pub grows : AllZip (Grows mint before after) before.runes earlier
    pub begins : AllZip (Begins after) (as_list etching) last

-- what the transaction at a place adds, by the runes as they were before it
abbrev pub TurnAdds : Spot → Tx → List OutRow → Runes → Runes → Type 0
TurnAdds at tx spent before after =
    let artifact = artifact_at at tx in
    Adds (mint_by at.height before.runes artifact)
    (etching_by at tx spent before.runes artifact) before after

-- In a balanced state a transaction, whose place is free, adds its open mint's amount
-- and its etching's premine to runes, and nothing else.
abbrev pub TurnsAdd : Type 0
TurnsAdd =
    (at : Spot) (tx : Tx) (spent : List OutRow) (state : Runes) → Balanced state
    → IsFree at state.runes → TurnAdds at tx spent state (turn at tx spent state)
