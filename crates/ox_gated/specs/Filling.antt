-- The other file while it is filled, piece by piece, behind its closed first gate.
use Rattle.std.specs.Prelude.{◌≡◌, ℕ, ◌<◌, ◌^◌, true, IsTrue, List, ◌++◌, length}
use Rattle.ox_outside.specs.Counts.{NoFault, Rose, StopsAtFault}
use Rattle.ox_outside.specs.Crash.{Remains}
use Rattle.ox_outside.specs.Files.{Files, file_of, other}
use Rattle.ox_outside.specs.Runs.{LeavesOnly}
use Rattle.ox_outside.specs.declared.site.Site.{Ghosts as Meanings}
use Rattle.ox_outside.specs.declared.site.Which.{Which}
use Rattle.sha2.specs.Hashers.{Holds256}
use Rattle.sha2.specs.declared.Sha256.{Sha256}
use Rattle.ox_gated.specs.Layout.{summed_body_at}
use Rattle.ox_gated.specs.OtherFile.{BeginsShut, IsSpared}
use Rattle.ox_gated.specs.Reading.{ReadsAlike, is_any, reading}
use Rattle.ox_gated.specs.Tail.{Kept, Keeps}
use Rattle.ox_gated.specs.Writes.{OnlyWrites}
use Rattle.ox_gated.specs.declared.fault.Halt.{Halt}
use Rattle.ox_gated.specs.declared.fault.Halt.TheVariants as halts

-- Of files and an image of them: the image of this file begins with a closed gate, that of the
-- other one is as it is read, and they read alike.
pub record IsShutAs (file : Which) (files image : Files) : Type 0 where
  pub shut : BeginsShut (file_of image file)
  pub spared : IsSpared (other file) files image
  pub alike : ReadsAlike files image

-- The tail keeps of the files what it says. The other file begins with a closed gate, and so it
-- does in whatever a crash leaves, where its rest may be other than it is read.
pub record StaysShut {S : Type 0} (means : Meanings S) (tail : Kept) (site : S) : Type 0 where
  pub keeps : Keeps tail (reading is_any (means.seen site))
  pub closed : tail.other_closed ≡ true
  pub now : BeginsShut (file_of (means.seen site) (other tail.file))
  pub each : (r : Remains) → means.may_leave site r
      → IsShutAs (other tail.file) (means.seen site) r.files

-- Any number of writes behind the closed gate beside this tail's file, of which the last may have
-- failed: at each moment a crash leaves files that read as they did.
pub record PoursOn {S : Type 0} (means : Meanings S) (tail : Kept) (old new : S) : Type 0 where
  pub writes : OnlyWrites means old new
  pub stays : IsTrue (means.told old) → StaysShut means tail new
  pub spared : IsTrue (means.told old) → IsSpared tail.file (means.seen old) (means.seen new)
  pub alike : IsTrue (means.told old) → ReadsAlike (means.seen old) (means.seen new)
  pub moments : IsTrue (means.told old)
      → LeavesOnly means old new (λ r. ReadsAlike (means.seen old) r.files)

-- Of which none failed.
pub record Pours {S : Type 0} (means : Meanings S) (tail : Kept) (old new : S) : Type 0 where
  pub on : PoursOn means tail old new
  pub counted : NoFault (means.counts old) (means.counts new)

-- Of which the last failed, or wasn't made for want of memory.
pub record PoursUntil {S : Type 0} (means : Meanings S) (tail : Kept) (old : S) (halt : Halt)
    (new : S) : Type 0 where
  pub on : PoursOn means tail old new
  pub failed : halt ≡ halts.Disk → Rose (means.counts old).disk (means.counts new).disk
  pub counted : StopsAtFault (halt ≡ halts.Disk) ⊥ ⊥ (means.counts old) (means.counts new)

-- these bytes stand at this place of a file, with others before and behind
pub record StandsAt (place : ℕ) (bytes file : List ℕ) : Type 0 where
  pub front : List ℕ
  pub older : List ℕ
  pub here : length front ≡ place
  pub file_is : file ≡ front ++ bytes ++ older

-- what a filling keeps: the tail, how many bytes of a body it has taken, and what hashed them
pub record Poured : Type 0 where
  pub tail : Kept
  pub size : ℕ
  pub hasher : Sha256

-- These are the bytes of a body that it has taken: they stand where a body does in a file of
-- version 3.
pub record HasTaken {S : Type 0} (means : Meanings S) (filling : Poured) (site : S)
    (body : List ℕ) : Type 0 where
  pub size : filling.size ≡ length body
  pub short : filling.size < 2 ^ 63
  pub hashed : Holds256 filling.hasher body
  pub stays : IsTrue (means.told site) → StaysShut means filling.tail site
  pub stands : IsTrue (means.told site)
      → StandsAt summed_body_at body (file_of (means.seen site) (other filling.tail.file))
