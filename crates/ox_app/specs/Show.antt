-- What is shown on channel 0, and which calls failed.
use Rattle.std.specs.Prelude.{◌≡◌, ◌⊎◌, ℕ, false, true, List, [], length, codes, Result, Ok, Err}
use Rattle.std.specs.Prelude.{IsErrOf}
use Rattle.ox_outside.specs.Counts.{Counts, Rose, StopsAtFault}
use Rattle.ox_outside.specs.Event.{Event, heard_bytes, shown_bytes, has_ended}
use Rattle.ox_outside.specs.Log.{Grows}
use Rattle.ox_outside.specs.declared.site.Failed.{Failed}
use Rattle.ox_outside.specs.declared.site.Site.{Ghosts as Meanings}
use Rattle.ox_feed.specs.Feed.{feed_limit}
use Rattle.ox_gated.specs.declared.fault.Halt.TheVariants as halts
use Rattle.ox_app.specs.Headline.{IsFrontOf, OnlyOwn}
use Rattle.ox_app.specs.Status.{IsDone, IsRefusal}
use Rattle.ox_app.specs.declared.status.Status.{Status}
use Rattle.ox_app.specs.declared.status.Status.TheVariants.{Done, DiskFault, HearFault, ShowFault}
use Rattle.ox_app.specs.declared.stop.Stop.{Stop}
use Rattle.ox_app.specs.declared.stop.Stop.TheVariants as stops

-- ---- faults

-- a call on a file failed
abbrev pub DiskFails : {S : Type 0} → Meanings S → S → S → Type 0
DiskFails means old new = Rose (means.counts old).disk (means.counts new).disk

-- hearing on channel 0 failed
abbrev pub HearFails : {S : Type 0} → Meanings S → S → S → Type 0
HearFails means old new = Rose ((means.counts old).hear 0) ((means.counts new).hear 0)

-- showing on channel 0 failed
abbrev pub ShowFails : {S : Type 0} → Meanings S → S → S → Type 0
ShowFails means old new = Rose ((means.counts old).show 0) ((means.counts new).show 0)

-- all was done, or memory ran out, where the feed ends before it is given up
abbrev pub EndsDone : Status → List Event → Type 0
EndsDone status events =
    (length (heard_bytes 0 events) ≡ feed_limit → has_ended 0 events ≡ true) → IsDone status

-- A call on files or on channel 0 fails at most once in a run, which ends with it, and the status
-- says which kind it was. A line of refusal, once shown in part, leaves the status as it is.
abbrev pub EndsAtFault : Status → Counts → Counts → Type 0
EndsAtFault status old new =
    StopsAtFault (status ≡ DiskFault) (status ≡ HearFault) ((status ≡ ShowFault) ⊎ IsRefusal status)
    old new

-- the same of a part of a run, by why it stopped
abbrev pub EndsAtStop : {T : Type 0} → Result T Stop → Counts → Counts → Type 0
EndsAtStop result old new =
    StopsAtFault (IsErrOf result (stops.Halt halts.Disk)) (IsErrOf result stops.HearFault)
    (IsErrOf result stops.ShowFault) old new

-- of a line of which a front may be shown: at most one showing failed, the last
abbrev pub MayFailToShow : Counts → Counts → Type 0
MayFailToShow old new = StopsAtFault ⊥ ⊥ (Unit {0}) old new

-- ---- a line or a body

-- nothing is heard
pub record HearsNothing (events : List Event) : Type 0 where
  pub only : OnlyOwn events
  pub unheard : heard_bytes 0 events ≡ []
  pub not_ended : has_ended 0 events ≡ false

-- these bytes are shown, and nothing else is done
pub record ShowsWhole (bytes : List ℕ) (events : List Event) : Type 0 where
  pub quiet : HearsNothing events
  pub shown : shown_bytes 0 events ≡ bytes

-- a front of them is shown
pub record ShowsFront (bytes : List ℕ) (events : List Event) : Type 0 where
  pub quiet : HearsNothing events
  pub shown : IsFrontOf (shown_bytes 0 events) bytes

-- what showing bytes says of the events that it logged
abbrev pub Shows : List ℕ → Result (Unit {0}) Failed → List Event → Type 0
Shows bytes (Ok done) events = ShowsWhole bytes events
Shows bytes (Err failed) events = ShowsFront bytes events

-- a line is shown whole, or a front of it where showing failed
abbrev pub Says : {S : Type 0} → Meanings S → List ℕ → S → S → Type 0
Says means line old new =
    Grows (ShowsWhole line) (means.log old) (means.log new)
    ⊎ (ShowFails means old new × Grows (ShowsFront line) (means.log old) (means.log new))

-- a line or a body is shown: a front of it, and all of it where the run is done
pub record ShowsReply (bytes : List ℕ) (status : Status) (events : List Event) : Type 0 where
  pub front : ShowsFront bytes events
  pub whole : status ≡ Done → shown_bytes 0 events ≡ bytes

-- the same, of a run
abbrev pub ShowsText : {S : Type 0} → Meanings S → List ℕ → Status → S → S → Type 0
ShowsText means bytes status old new =
    Grows (ShowsReply bytes status) (means.log old) (means.log new)

-- the line that is shown where the words are no subcommand
abbrev pub usage_line : List ℕ
usage_line = codes "usage\n"
