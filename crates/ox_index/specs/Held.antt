-- What the parts of an index hold that go back to a mark, and what a block makes of it.
use Rattle.std.specs.Prelude.{◌≡◌, ◌≢◌, ℕ, ◌-◌, ◌≤◌, All, List, ◌++◌, drop, length, take}
use Rattle.std.specs.Prelude.{Option, Some, None, Ok}
use Rattle.ox_block.specs.Hashes.{block_hash}
use Rattle.ox_block.specs.declared.block.Block.{Block}
use Rattle.ox_sat.specs.declared.profiles.Profile.{Profile}
use Rattle.ox_rules.specs.Differences.{Differ, other_end, reverse_of}
use Rattle.ox_rules.specs.Outputs.{Outputs}
use Rattle.ox_rules.specs.Transfer.{Transferred, transfer_of}
use Rattle.ox_rules.specs.declared.moved.Moved.{Moved}
use Rattle.ox_inscribe.specs.Reveal.{reveal_of}
use Rattle.ox_inscribe.specs.declared.row.InsRow.{InsRow}
use Rattle.ox_etching.specs.declared.row.RuneRow.{RuneRow}
use Rattle.ox_ledger.specs.Block.{runes_after}
use Rattle.ox_ledger.specs.Part.{Continues, IsPart, earlier_end, later_end}
use Rattle.ox_ledger.specs.Runes.{Runes}
use Rattle.ox_model.specs.Change.{outputs_changed}
use Rattle.ox_model.specs.declared.change.Change.{Change}
use Rattle.ox_transfer.specs.Parts.{transferred_of}

-- what they hold
pub record Held : Type 0 where
  pub outs : Outputs
  pub inscriptions : List InsRow
  pub runes : Runes

-- what they held at their marks, where each has one
abbrev pub held_then : Option Outputs → Option (List InsRow) → Option Runes → Option Held
held_then (Some outs) (Some rows) (Some runes) =
    Some (record { outs = outs; inscriptions = rows; runes = runes })
held_then _ _ _ = None

-- what a block makes of them whose satoshis moved so
abbrev pub held_after : Profile → ℕ → Block → Transferred → Held → Held
held_after p height block after held = record {
  outs = after.outs;
  inscriptions =
      held.inscriptions ++ reveal_of held.inscriptions height block.txs after.moved.txs;
  runes = runes_after p height block.txs after.moved.txs held.runes;
}

-- a change tells of what they held before and hold after
pub record TellsOf (before after : Held) (change : Change) : Type 0 where
  pub outputs : Differ before.outs after.outs (outputs_changed change)
  pub inscriptions : after.inscriptions ≡ before.inscriptions ++ change.inscriptions
  pub continues : Continues before.runes.runes after.runes.runes
  pub runes : IsPart before.runes after.runes change.runes

-- a change tells what came since a mark, by a block with this hash that lost these satoshis, behind
-- so many inscriptions
pub record IsTold (mark : Option Held) (now : Held) (hash lost : List ℕ) (from : ℕ)
    (change : Change) : Type 0 where
  pub hash_is : change.hash ≡ hash
  pub lost_are : change.lost ≡ lost
  pub outputs : (before : Held) → mark ≡ Some before
      → Differ before.outs now.outs (outputs_changed change)
  pub inscriptions : change.inscriptions ≡ drop from now.inscriptions
  pub runes : (before : Held) → mark ≡ Some before → IsPart before.runes now.runes change.runes

-- a block at a height was taken in, and this is its change
pub record IsTaken (p : Profile) (height : ℕ) (block : Block) (before after : Held)
    (change : Change) : Type 0 where
  pub moved : Transferred
  pub moves : transfer_of p height block.txs before.outs ≡ Ok moved
  pub holds : after ≡ held_after p height block moved before
  pub lost : change.lost ≡ moved.moved.lost
  pub hash : change.hash ≡ block_hash block.header
  pub tells : TellsOf before after change

-- a block's satoshis have moved so since the marks, and nothing else has
pub record HasMoved (p : Profile) (height : ℕ) (block : Block) (moved : Moved) (mark : Option Held)
    (now : Held) : Type 0 where
  pub outs : Outputs
  pub marked : mark
      ≡ Some (record { outs = outs; inscriptions = now.inscriptions; runes = now.runes })
  pub moves : transfer_of p height block.txs outs ≡ Ok (transferred_of moved now.outs)

-- from the height on at which runes start, none of these was etched at this one
abbrev pub NoneOf : Profile → ℕ → List RuneRow → Type 0
NoneOf p height runes =
    p.rune_start ≤ height → All (λ (row : RuneRow). row.id.block ≢ height) runes

-- a change has no more inscriptions than these
abbrev pub RevealsWithin : Change → Held → Type 0
RevealsWithin change held = length change.inscriptions ≤ length held.inscriptions

-- these are had by going back over a change, and by going on over it
pub record IsBack (now other : Held) (change : Change) : Type 0 where
  pub outputs : other.outs ≡ other_end now.outs (outputs_changed change)
  pub inscriptions : other.inscriptions
      ≡ take (length now.inscriptions - length change.inscriptions) now.inscriptions
  pub runes : other.runes ≡ earlier_end now.runes change.runes

pub record IsOn (now other : Held) (change : Change) : Type 0 where
  pub outputs : other.outs ≡ other_end now.outs (reverse_of (outputs_changed change))
  pub inscriptions : other.inscriptions ≡ now.inscriptions ++ change.inscriptions
  pub runes : other.runes ≡ later_end now.runes change.runes
