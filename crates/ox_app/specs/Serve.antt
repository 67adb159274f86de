-- What a server over the files does: what its links did, and then what it tells of them.
use Rattle.std.specs.Prelude.{◌≡◌, ◌⊎◌, ℕ, List, [], ◌∷◌, ◌++◌, codes, decimal, Some, Ok}
use Rattle.ox_outside.specs.Counts.{Counts, Rose}
use Rattle.ox_outside.specs.Crash.{Remains, MayLeaveFiles}
use Rattle.ox_outside.specs.Event.{Event}
use Rattle.ox_outside.specs.Files.{Files}
use Rattle.ox_outside.specs.Log.{Grows}
use Rattle.ox_outside.specs.Runs.{LeavesOnly}
use Rattle.ox_outside.specs.declared.site.Site.{Ghosts as Meanings}
use Rattle.ox_links.specs.Serving.{Server}
use Rattle.ox_links.specs.Survives.{Survives}
use Rattle.ox_links.specs.Turned.{CutShort, IsFewer}
use Rattle.ox_turns.specs.Follows.{ShowsFrontsIn}
use Rattle.ox_model.specs.Machine.{Machine, stack_of}
use Rattle.ox_files.specs.Stands.{stands}
use Rattle.ox_desk.specs.Servers.{server_of}
use Rattle.ox_app.specs.Turns.{Served}
use Rattle.ox_app.specs.Headline.{OnlyOwn}
use Rattle.ox_app.specs.Show.{ShowsReply}
use Rattle.ox_app.specs.declared.status.Status.{Status}
use Rattle.ox_app.specs.declared.status.Status.TheVariants as ends

-- the line that tells what was counted
unfoldable pub totals_line : ℕ → ℕ → List ℕ
totals_line requests hits =
    codes "requests " ++ decimal requests ++ codes " hits " ++ decimal hits ++ codes "\n"

-- a call on a door failed
abbrev pub DoorFails : {S : Type 0} → Meanings S → S → S → Type 0
DoorFails means old new = Rose (means.counts old).door (means.counts new).door

-- ---- what is logged

-- All turns were made, and what was counted of their answers is shown: a front of the line, and all
-- of it where the run is done.
pub record ServesAll {X C : Type 0} (server : Server X C) (first : X) (turns : ℕ) (status : Status)
    (old new : Counts) (links own : List Event) : Type 0 where
  pub requests : ℕ
  pub hits : ℕ
  pub served : Served server first turns old new requests hits links
  pub tells : ShowsReply (totals_line requests hits) status own

-- A run of a server: what its links did, and then what the program itself shows.
pub record RunsServer {X C : Type 0} (server : Server X C) (first : X) (turns : ℕ) (status : Status)
    (old new : Counts) (events : List Event) : Type 0 where
  pub links : List Event
  pub own : List Event
  pub logged : events ≡ links ++ own
  -- to each link a front of its answers was shown
  pub fronts : ShowsFrontsIn server first links
  pub all : (status ≡ ends.Done) ⊎ (status ≡ ends.ShowFault)
      → ServesAll server first turns status old new links own
  -- a fault of a file ended a turn
  pub cut : status ≡ ends.DiskFault → CutShort server first turns links × (own ≡ [])
  -- a fault of a door, which logs nothing, ended the run between two turns
  pub fewer : status ≡ ends.DoorFault → IsFewer server first turns links × (own ≡ [])
  -- memory ran out before the first turn, or not at all
  pub nothing : status ≡ ends.Memory → events ≡ []

-- a run serves links from this machine on: each reply is by fresh indexing of the blocks that it
-- has then
abbrev pub AnswersLinks : {S : Type 0} → Meanings S → Machine → ℕ → Status → S → S → Type 0
AnswersLinks means machine turns status old new =
    Grows (RunsServer server_of machine turns status (means.counts old) (means.counts new))
    (means.log old) (means.log new)

-- ---- what a crash leaves

-- files that survive what the links did, whatever the program itself showed then
pub record SurvivesLinks {X C : Type 0} (server : Server X C) (first : X)
    (stood : Files → X → Type 0) (files : Files) (events : List Event) : Type 0 where
  pub links : List Event
  pub own : List Event
  pub logged : events ≡ links ++ own
  pub only_own : OnlyOwn own
  pub survives : Survives server first stood links files

-- What a crash leaves when these events are logged; before the first of them, files that it might
-- have left before the run, or that stand for what was opened.
abbrev pub LeavesServing : {S X C : Type 0} → (S → Remains → Type 0) → S → Server X C → X
    → (Files → X → Type 0) → Files → List Event → Type 0
LeavesServing may_leave site server first stood files [] =
    MayLeaveFiles may_leave site files ⊎ stood files first
LeavesServing may_leave site server first stood files (event ∷ events) =
    SurvivesLinks server first stood files (event ∷ events)

-- files stand for a machine's stack
abbrev pub StandForMachine : Files → Machine → Type 0
StandForMachine files machine = stands files ≡ Ok (stack_of machine)

-- a crash at any moment of a run leaves files that survive what its links had done by then
abbrev pub SurvivesServing : {S : Type 0} → Meanings S → Machine → S → S → Type 0
SurvivesServing means machine old new =
    LeavesOnly means old new (λ r.
    Grows (LeavesServing means.may_leave old server_of machine StandForMachine r.files)
    (means.log old) (Some r.log))
