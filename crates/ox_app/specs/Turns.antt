-- What a run of a server's turns comes to, over any desk.
use Rattle.std.specs.Prelude.{◌≡◌, ◌≢◌, ℕ, Bool, IsTrue, List, Some, Result, Ok, Err, OnOk, OnErr}
use Rattle.std.specs.Prelude.{IsErrOf}
use Rattle.ox_outside.specs.Counts.{Counts, Rose, StopsAtFault}
use Rattle.ox_outside.specs.Event.{Event}
use Rattle.ox_outside.specs.Files.{Files}
use Rattle.ox_outside.specs.Log.{Grows}
use Rattle.ox_outside.specs.Runs.{Calls, LeavesOnly}
use Rattle.ox_outside.specs.declared.site.Site.{Ghosts as Meanings}
use Rattle.ox_http.specs.declared.Request.{Request}
use Rattle.ox_links.specs.Counted.{hits_in, requests_in}
use Rattle.ox_links.specs.Serving.{Server, served_by}
use Rattle.ox_links.specs.Survives.{Survives}
use Rattle.ox_links.specs.Turned.{CutShort, IsFewer, Turned}
use Rattle.ox_turns.specs.Follows.{ShowsFrontsIn}
use Rattle.ox_turns.specs.declared.handler.Desk.{Ghosts as Desk}
use Rattle.ox_turns.specs.declared.turns.TurnFault.{TurnFault}
use Rattle.ox_turns.specs.declared.turns.TurnFault.TheVariants as turn_faults
use Rattle.ox_model.specs.Stack.{Stack}
use Rattle.ox_files.specs.Stands.{stands}
use Rattle.ox_app.specs.Along.{GoesAlong}
use Rattle.ox_app.specs.declared.server.ServeFault.{ServeFault}
use Rattle.ox_app.specs.declared.server.ServeFault.TheVariants as faults

-- So many turns were made, with these counts before and after them, and the desk went from one to
-- another along their answers.
pub record MadeTurns {X C D : Type 0} (server : Server X C) (state : D → X)
    (moved : D → Request → Bool → D → Type 0) (same : D → D → Type 0) (n : ℕ) (old new : Counts)
    (desk next : D) (events : List Event) : Type 0 where
  pub turned : Turned server (state desk) n old new events
  pub goes : GoesAlong server state moved same 0 desk
      (served_by server (state desk) events).answers next

-- So many turns were made, and so many requests and hits counted of their answers.
pub record Served {X C : Type 0} (server : Server X C) (first : X) (n : ℕ) (old new : Counts)
    (requests hits : ℕ) (events : List Event) : Type 0 where
  pub turned : Turned server first n old new events
  pub requests_counted : requests ≡ requests_in (served_by server first events).answers
  pub hits_counted : hits ≡ hits_in (served_by server first events).answers

-- files stand for a stack
abbrev pub StandFor : Files → Stack → Type 0
StandFor files stack = stands files ≡ Ok stack

-- why a server stops of which a turn failed
abbrev pub fault_of_turn : TurnFault → ServeFault
fault_of_turn turn_faults.DiskFault = faults.DiskFault
fault_of_turn turn_faults.DoorFault = faults.DoorFault

-- What so many turns promise, however they end, of a site and of a desk.
pub record RunPromises {S D T : Type 0} (means : Meanings S) (desk : Desk D S) (times : ℕ)
    (result : Result T ServeFault) (before after : S) (old new : D) : Type 0 where
  pub made : OnOk result (Grows (λ events. MadeTurns desk.server desk.state desk.moved desk.same
      times (means.counts before) (means.counts after) old new events)
      (means.log before) (means.log after))
  pub cut : OnErr result (result ≢ Err faults.Memory
      → Grows (CutShort desk.server (desk.state old) times) (means.log before) (means.log after))
  pub fewer : IsErrOf result faults.DoorFault
      → Grows (IsFewer desk.server (desk.state old) times) (means.log before) (means.log after)
  -- to each link a front of its answers was shown
  pub fronts : Grows (ShowsFrontsIn desk.server (desk.state old)) (means.log before)
      (means.log after)
  -- at each moment a crash leaves files and a log that survive
  pub survives : IsTrue (means.told before) → LeavesOnly means before after (λ r.
      Grows (λ events. Survives desk.server (desk.state old) desk.stands events r.files)
      (means.log before) (Some r.log))
  pub rests : OnOk result (desk.rests new after)
  pub disk_fault : IsErrOf result faults.DiskFault
      → Rose (means.counts before).disk (means.counts after).disk
  pub door_fault : IsErrOf result faults.DoorFault
      → Rose (means.counts before).door (means.counts after).door
  pub counted : StopsAtFault (result ≡ Err faults.DiskFault) ⊥ ⊥ (means.counts before)
      (means.counts after)
  pub calls : Calls means before after
