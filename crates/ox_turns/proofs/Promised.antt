-- What a turn promises, whosever it is.
use Rattle.std.proofs.Common.{◌≡◌, ◌∙◌, ◌+◌, ◌≤◌, ℕ, arith, List, [], ◌∷◌, ◌++◌, Option, Some, None, sym, subst, inl, inr}
use Rattle.std.specs.Prelude.{IsTrue, Result, Ok, Err, IfErr, OnErr, OnOk}
use Rattle.ox_outside.specs.Counts.{NoFault, Rose, StopsAtFault}
use Rattle.ox_outside.specs.Crash.{OneCall}
use Rattle.ox_outside.specs.Event.{Event, Opened}
use Rattle.ox_outside.specs.Log.{Adds, Grows}
use Rattle.ox_outside.specs.Runs.{Calls, LeavesOnly}
use Rattle.ox_outside.specs.declared.site.Doorway.{Doorway}
use Rattle.ox_outside.specs.declared.site.Site.{Ghosts as Meanings}
use Rattle.ox_outside.proofs.Calls.{one_call}
use Rattle.ox_outside.proofs.Counts.{stops_at_none}
use Rattle.ox_links.specs.Serving.{served_by}
use Rattle.ox_links.specs.Survives.{Survives}
use Rattle.ox_turns.specs.Desk.{IsHttp}
use Rattle.ox_turns.specs.Follows.{Follows, Holds, LinkFollows, Start}
use Rattle.ox_turns.specs.Turn.{DoorComes, ShowsFronts, TurnPromises}
use Rattle.ox_turns.specs.declared.handler.Desk.{Ghosts as Desk}
use Rattle.ox_turns.specs.declared.slot.Slot.{Slot}
use Rattle.ox_turns.specs.declared.turns.TurnFault.{TurnFault}
use Rattle.ox_turns.specs.declared.turns.TurnFault.TheVariants.{DiskFault, DoorFault}
use Rattle.ox_turns.proofs.Turned.{fronts_since}

is_error : {T : Type 0} (result : Result T TurnFault) (fault : TurnFault) (P : TurnFault → Type 0) → IfErr result P → result ≡ Err fault → P fault
is_error result fault P holds is = subst (λ (r : Result _ TurnFault). IfErr r P) is holds

on_error : {T : Type 0} (result : Result T TurnFault) (fault : TurnFault) (P : Type 0) → OnErr result P → result ≡ Err fault → P
on_error result fault P holds is = subst (λ (r : Result _ TurnFault). OnErr r P) is holds

disk_isnt_door : DiskFault ≡ DoorFault → ⊥
disk_isnt_door is = cc is

whichever : {T : Type 0} (result : Result T TurnFault) (P : Type 0) → P → OnOk result P
whichever (Ok x) P p = p
whichever (Err e) P p = tt

module _ {S D : Type 0} (means : Meanings S) (desk : Desk D S) (slots : List (Option Slot)) (before after : S) where
  -- the files and the log survive a crash, at each moment of a turn
  abbrev SurvivesEach : D → Type 0
  SurvivesEach old =
      (start : Start desk.State) (since : List Event) → means.log before ≡ Some (start.log ++ since) → Follows desk.server start since slots (desk.state old) → IsTrue (means.told before)
      → LeavesOnly means before after (λ r. Grows (λ events. Survives desk.server start.state desk.stands (since ++ events) r.files) (means.log before) (Some r.log))

  -- what survives the turn of a link that is in a slot
  pub slot_survives : (http : IsHttp desk.server) (at : ℕ) (slot : Slot) → Holds slots at slot → (old : D)
      → ((past since : List Event) (first : desk.State) → means.log before ≡ Some (past ++ since)
      → LinkFollows (served_by desk.server first since) slot.channel slot.door slot.session → ShowsFronts (served_by desk.server first since)
      → desk.state old ≡ (served_by desk.server first since).state → IsTrue (means.told before)
      → LeavesOnly means before after (λ r. Grows (λ events. Survives desk.server first desk.stands (since ++ events) r.files) (means.log before) (Some r.log)))
      → SurvivesEach old
  slot_survives http at slot held old survives start since is follows told =
      survives start.log since start.state is (follows.links at slot held) (fronts_since desk.server http start since slots (desk.state old) follows) follows.state told

  module _ {T : Type 0} (result : Result T TurnFault) where
    -- a log that isn't told stays so at a door
    none_came : (door : Doorway) (now : List (Option Slot)) → means.log before ≡ None → DoorComes means door slots now before after → means.log after ≡ None
    none_came door now untold (inl none) = none.1 ∙ untold
    none_came door now untold (inr came) = subst (λ (log : Option (List Event)). Adds (λ log. Opened came.0 door ∷ []) log (means.log after)) untold came.4

    none_told : (r : Result T TurnFault) (door : Doorway) (now : List (Option Slot)) → OnOk r (DoorComes means door slots now before after) → OnErr r (means.log after ≡ means.log before)
        → means.log before ≡ None → means.log after ≡ None
    none_told (Ok x) door now comes fails untold = none_came door now untold comes
    none_told (Err e) door now comes fails untold = fails ∙ untold

    -- a door's turn, which leaves the desk as it is
    pub door_promises : (door : Doorway) (now : List (Option Slot)) (old : D) → SurvivesEach old → desk.rests old after
        → OnOk result (DoorComes means door slots now before after) → OnErr result (means.log after ≡ means.log before) → IfErr result (λ fault. fault ≡ DoorFault)
        → OnErr result (Rose (means.counts before).door (means.counts after).door) → NoFault (means.counts before) (means.counts after)
        → OneCall means.told means.counts means.clock means.may_leave means.left_since before after
        → TurnPromises means desk result slots before after old old
    door_promises door now old survives rests comes fails fault failed counted call = record {
      survives = survives;
      untold = none_told result door now comes fails;
      rests = whichever result (desk.rests old after) rests;
      asked = omega arith;
      disk_fault = λ is. absurd (disk_isnt_door (is_error result DiskFault (λ f. f ≡ DoorFault) fault is));
      door_fault = on_error result DoorFault (Rose (means.counts before).door (means.counts after).door) failed;
      door_logs = on_error result DoorFault (means.log after ≡ means.log before) fails;
      counted = stops_at_none (result ≡ Err DiskFault) ⊥ ⊥ (means.counts before) (means.counts after) counted;
      calls = one_call means before after call;
    }

    -- a link's turn, which no door's fault ends
    pub link_promises : (old new : D) → SurvivesEach old → (means.log before ≡ None → means.log after ≡ None) → OnOk result (desk.rests new after) → desk.asked new ≤ desk.asked old + 1
        → IfErr result (λ fault. fault ≡ DiskFault) → OnErr result (Rose (means.counts before).disk (means.counts after).disk)
        → StopsAtFault (result ≡ Err DiskFault) ⊥ ⊥ (means.counts before) (means.counts after) → Calls means before after
        → TurnPromises means desk result slots before after old new
    link_promises old new survives untold rests asked fault failed counted calls = record {
      survives = survives;
      untold = untold;
      rests = rests;
      asked = asked;
      disk_fault = on_error result DiskFault (Rose (means.counts before).disk (means.counts after).disk) failed;
      door_fault = λ is. absurd (disk_isnt_door (sym (is_error result DoorFault (λ f. f ≡ DiskFault) fault is)));
      door_logs = λ is. absurd (disk_isnt_door (sym (is_error result DoorFault (λ f. f ≡ DiskFault) fault is)));
      counted = counted;
      calls = calls;
    }
