-- A turn at version 3: the same stack is written into the other file.
use Rattle.std.specs.Prelude.{◌≡◌, ◌⊎◌, IsTrue, Ok}
use Rattle.ox_outside.specs.Counts.{Rose, StopsAtFault}
use Rattle.ox_outside.specs.Files.{other}
use Rattle.ox_outside.specs.Runs.{LeavesOnly}
use Rattle.ox_outside.specs.declared.site.Site.{Ghosts as Meanings}
use Rattle.ox_gated.specs.OtherFile.{MayTurn}
use Rattle.ox_gated.specs.Tail.{Kept}
use Rattle.ox_gated.specs.Writes.{OnlyWrites}
use Rattle.ox_gated.specs.declared.fault.Halt.{Halt}
use Rattle.ox_gated.specs.declared.fault.Halt.TheVariants as halts
use Rattle.ox_gated.specs.declared.head.Head.{Head}
use Rattle.ox_checkpoint.specs.declared.put.buffer.PutFault.{PutFault}
use Rattle.ox_checkpoint.specs.declared.put.buffer.PutFault.TheVariants as puts
use Rattle.ox_model.specs.Stack.{Stack}
use Rattle.ox_files.specs.Stands.{stands}
use Rattle.ox_store.specs.Writing.{HasOneMore, HasTurned}
use Rattle.ox_store.specs.declared.turning.Turned.{Turned}
use Rattle.ox_store.specs.declared.turning.Turned.TheVariants.{To, GivenUp}

-- Calls on files, of which at most the last failed. Where the files stand for this stack they stand
-- for it in whatever a crash leaves at any moment of the calls.
pub record Goes {S : Type 0} (means : Meanings S) (stack : Stack) (failed : Type 0) (old new : S)
    : Type 0 where
  pub writes : OnlyWrites means old new
  pub counted : StopsAtFault failed ⊥ ⊥ (means.counts old) (means.counts new)
  pub rose : failed → Rose (means.counts old).disk (means.counts new).disk
  pub moments : IsTrue (means.told old) → stands (means.seen old) ≡ Ok stack
      → LeavesOnly means old new (λ r. stands r.files ≡ Ok stack)

-- And so they do as they are read then.
abbrev pub StandsAsBefore : {S : Type 0} → Meanings S → Stack → S → S → Type 0
StandsAsBefore means stack old new =
    IsTrue (means.told old) → stands (means.seen old) ≡ Ok stack
    → stands (means.seen new) ≡ Ok stack

-- why a body wasn't put
abbrev pub halt_in : PutFault Halt → Halt
halt_in puts.Memory = halts.Memory
halt_in (puts.Sink halt) = halt

-- ---- the tail

-- the tail of the same file, with as many records
pub record IsSameFile (old new : Kept) : Type 0 where
  pub file : new.file ≡ old.file
  pub head : new.head ≡ old.head
  pub records : new.records ≡ old.records

-- the tail of the other file, which has this head and no record
pub record IsOtherFile (old : Kept) (next : Head) (new : Kept) : Type 0 where
  pub file : new.file ≡ other old.file
  pub head : new.head ≡ next
  pub records : new.records ≡ 0

abbrev pub tail_in : Turned → Kept
tail_in (To tail) = tail
tail_in (GivenUp tail) = tail

-- the other file took the place, with this head, or the current one stays
abbrev pub IsTurned : Kept → Head → Turned → Type 0
IsTurned old head (To new) = IsOtherFile old head new
IsTurned old head (GivenUp new) = IsSameFile old new

-- the same file, or, where a turn pays, the other one with the next generation and no record
abbrev pub MayHaveTurned : Kept → Kept → Type 0
MayHaveTurned old new = IsSameFile old new ⊎ (MayTurn old × HasTurned old new)

-- one record more in the same file; or, where a turn pays behind that record, the other file, with
-- the next generation and no record
abbrev pub HasGoneOn : Kept → Kept → Type 0
HasGoneOn old new =
    HasOneMore old new
    ⊎ ((after : Kept) × HasOneMore old after × MayTurn after × HasTurned after new)
