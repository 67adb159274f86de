-- Where a transaction etches, no rune was etched before it, so a ledger may take its turn.
use Rattle.std.proofs.Common.{◌≡◌, ◌≢◌, ℕ, ◌+◌, ◌<◌, ◌≤◌, List, [], ◌∷◌, length, ap, arith}
use Rattle.std.specs.List.{AllByRecursion}
use Rattle.std.proofs.lemmas.List.Elements.{All-from_recursion, All-weaker, recursion_from_All}
use Rattle.ox_block.specs.declared.block.Tx.{Tx}
use Rattle.ox_block.specs.declared.block.Txid.{Txid}
use Rattle.ox_runestone.specs.declared.stone.RuneId.{RuneId}
use Rattle.ox_sat.specs.Profiles.{IsProfile}
use Rattle.ox_sat.specs.declared.profiles.Profile.{Profile}
use Rattle.ox_rules.specs.declared.moved.MovedTx.{MovedTx}
use Rattle.ox_etching.specs.declared.spot.Spot.{Spot}
use Rattle.ox_etching.specs.Etched.{id_of}
use Rattle.ox_etching.specs.declared.row.RuneRow.{RuneRow}
use Rattle.ox_ledger.specs.Block.{turn_at}
use Rattle.ox_ledger.specs.Runes.{Runes}
use Rattle.ox_ledger.specs.Turn.{IsFree}
use Rattle.ox_model.specs.Index.{Index}
use Rattle.ox_model.specs.Sound.{SoundRunes}
use Rattle.ox_model.proofs.RunesOfChains.{ComesBelow, IsOfChain, comes_from, ids_turn, other_height}

-- from the height on at which runes start, those of a block's height were etched before this place
abbrev IsBefore : ℕ → ℕ → RuneId → Type 0
IsBefore height place id = id.block ≡ height → id.tx < place

abbrev pub IsOpen : Profile → ℕ → ℕ → List RuneRow → Type 0
IsOpen p height place runes = p.rune_start ≤ height → AllByRecursion (λ (row : RuneRow). IsBefore height place row.id) runes

none_here : (p : Profile) (height : ℕ) (runes : List RuneRow) → IsProfile p → p.rune_start ≤ height → AllByRecursion (ComesBelow p height) runes
    → AllByRecursion (λ (row : RuneRow). IsBefore height 0 row.id) runes
none_here p height [] known start below = tt
none_here p height (row ∷ runes) known start below = ((λ same. absurd (other_height p height row known start below.0 same)), none_here p height runes known start below.1)

-- so it is before a block
pub open_first : (p : Profile) (index : Index) → IsProfile p → SoundRunes p index → IsOpen p (length index.hashes) 0 index.runes
open_first p index known sound start =
    none_here p (length index.hashes) index.runes known start (recursion_from_All (ComesBelow p (length index.hashes)) index.runes
    (All-weaker (IsOfChain p (length index.hashes)) (ComesBelow p (length index.hashes)) (comes_from p (length index.hashes)) index.runes sound.below))

later : (height place : ℕ) (runes : List RuneRow) → AllByRecursion (λ (row : RuneRow). IsBefore height place row.id) runes
    → AllByRecursion (λ (row : RuneRow). IsBefore height (place + 1) row.id) runes
later height place [] all = tt
later height place (row ∷ runes) all = ((λ same. let below : row.id.tx < place = all.0 same in omega arith), later height place runes all.1)

-- and after a transaction, of the place behind it
pub open_next : (p : Profile) (height place : ℕ) (tx : Tx) (moved : MovedTx) (state : Runes) → IsOpen p height place state.runes → IsOpen p height (place + 1) (turn_at p height place tx moved state).runes
open_next p height place tx moved state is start =
    ids_turn (IsBefore height (place + 1)) (record { profile = p; height = height; tx = place; txid = moved.txid }) tx moved.spent state (λ same. omega arith) (later height place state.runes (is start))

none_has : (at : Spot) (runes : List RuneRow) → AllByRecursion (λ (row : RuneRow). IsBefore at.height at.tx row.id) runes → AllByRecursion (λ (row : RuneRow). row.id ≢ id_of at) runes
none_has at [] all = tt
none_has at (row ∷ runes) all = (
  λ same. let below : row.id.tx < at.tx = all.0 (ap (λ (id : RuneId). id.block) same) in let tx : row.id.tx ≡ at.tx = ap (λ (id : RuneId). id.tx) same in absurd (omega arith),
  none_has at runes all.1,
)

-- then the transaction's place is free
pub open_free : (p : Profile) (height place : ℕ) (txid : Txid) (runes : List RuneRow) → IsOpen p height place runes
    → IsFree (record { profile = p; height = height; tx = place; txid = txid }) runes
open_free p height place txid runes is start =
    let at : Spot = record { profile = p; height = height; tx = place; txid = txid } in
    All-from_recursion (λ (row : RuneRow). row.id ≢ id_of at) runes (none_has at runes (is start))
