-- A site in memory as contracts see it: what it began with, what has happened since, and what a
-- crash at each moment leaves.
use Rattle.std.specs.Prelude.{◌≡◌, ℕ, ◌≤◌, Bool, true, false, List, [], ◌∷◌, ◌++◌, length, take}
use Rattle.std.specs.Prelude.{drop}
use Rattle.std.specs.Prelude.{replicate, slice_index_or, Result, Ok, Err, ◌⊎◌, ◌==◌}
use Rattle.std.specs.Prelude.{if◌then◌else◌}
use Rattle.ox_outside.specs.Counts.{Counts}
use Rattle.ox_outside.specs.Crash.{Remains}
use Rattle.ox_outside.specs.Disk.{Disk, synced_disk, after_write, after_torn, IsImage}
use Rattle.ox_outside.specs.Event.{Event, Opened, Heard, Ended, Showed, Broke, GaveUp, Shut}
use Rattle.ox_outside.specs.Event.{has_broken}
use Rattle.ox_outside.specs.Files.{Files, file_of}
use Rattle.ox_outside.specs.declared.site.Doorway.{Doorway}
use Rattle.ox_outside.specs.declared.site.Doorway.TheVariants.{Public, Operator}
use Rattle.ox_outside.specs.declared.site.Failed.{Failed}
use Rattle.ox_outside.specs.declared.site.Which.{Which}
use Rattle.ox_outside.specs.declared.site.Which.TheVariants.{A, B}
use Rattle.ox_memsite.specs.Channels.{channel_at, at_channel, new_channel, silent_channel}
use Rattle.ox_memsite.specs.Channels.{next_count, hear_fault, show_fault}
use Rattle.ox_memsite.specs.Room.{channels_in}
use Rattle.ox_memsite.specs.declared.channel.Channel.{Channel}
use Rattle.ox_memsite.specs.declared.said.Said.{Said}
use Rattle.ox_memsite.specs.declared.step.Step.{Step}
use Rattle.ox_memsite.specs.declared.step.Step.TheVariants as steps

abbrev pub is_same : Which → Which → Bool
is_same A A = true
is_same A B = false
is_same B A = false
is_same B B = true

-- what a step does to a file
abbrev pub disk_step : Which → Disk → Step → Disk
disk_step which disk (steps.Wrote file at bytes) =
    if is_same which file then after_write at bytes disk else disk
disk_step which disk (steps.Tore file at n) =
    if is_same which file then after_torn at n disk else disk
disk_step which disk (steps.Synced file) =
    if is_same which file then synced_disk disk.seen else disk
disk_step which disk (steps.Heard channel bytes) = disk
disk_step which disk (steps.Ended channel) = disk
disk_step which disk (steps.Showed channel bytes) = disk
disk_step which disk (steps.Broke channel) = disk
disk_step which disk (steps.Opened channel door) = disk
disk_step which disk (steps.GaveUp channel) = disk
disk_step which disk (steps.Shut channel) = disk

abbrev pub disk_after : Which → Disk → List Step → Disk
disk_after which disk [] = disk
disk_after which disk (step ∷ done) = disk_after which (disk_step which disk step) done

-- what a step adds to the log
abbrev pub event_of : Step → List Event
event_of (steps.Wrote file at bytes) = []
event_of (steps.Tore file at n) = []
event_of (steps.Synced file) = []
event_of (steps.Heard channel bytes) = Heard channel bytes ∷ []
event_of (steps.Ended channel) = Ended channel ∷ []
event_of (steps.Showed channel bytes) = Showed channel bytes ∷ []
event_of (steps.Broke channel) = Broke channel ∷ []
event_of (steps.Opened channel door) = Opened channel door ∷ []
event_of (steps.GaveUp channel) = GaveUp channel ∷ []
event_of (steps.Shut channel) = Shut channel ∷ []

abbrev pub events_of : List Step → List Event
events_of [] = []
events_of (step ∷ done) = event_of step ++ events_of done

pub record World : Type 0 where
  -- the files that it began with, all on the disk
  pub first : Files
  -- the log that it began with
  pub past : List Event
  -- what has happened since, in order; the clock counts them
  pub steps : List Step
  -- what channel 0 will still give
  pub input : List ℕ
  -- what each channel will still say, and what is counted of it
  pub channels : List Channel
  -- the scripts of the links that wait at each door, in order
  pub at_public : List (List Said)
  pub at_operator : List (List Said)
  -- the numbers of the calls that are to fail
  pub failing : List ℕ
  -- the number of the call that comes next, and the counts
  pub calls : ℕ
  pub starved : ℕ
  pub disk_faults : ℕ
  pub door_faults : ℕ
  pub public_idles : ℕ
  pub operator_idles : ℕ

-- a site at its beginning: these files, all of them on the disk, and this log, whose links have
-- nothing more to say
abbrev pub first_site : List ℕ → List ℕ → List Event → World
first_site a b past = record {
  first = record { a = a; b = b };
  past = past;
  steps = [];
  input = [];
  channels = replicate (channels_in past) silent_channel;
  at_public = [];
  at_operator = [];
  failing = [];
  calls = 0;
  starved = 0;
  disk_faults = 0;
  door_faults = 0;
  public_idles = 0;
  operator_idles = 0;
}

-- a file after these steps
abbrev pub disk_of : Files → List Step → Which → Disk
disk_of first done which = disk_after which (synced_disk (file_of first which)) done

-- what a read of each file gives
abbrev pub seen_of : World → Files
seen_of w = record { a = (disk_of w.first w.steps A).seen; b = (disk_of w.first w.steps B).seen }

abbrev pub log_of : World → List Event
log_of w = w.past ++ events_of w.steps

-- a crash after these steps leaves an image of each file, and the log that they made
pub record Left (first : Files) (past : List Event) (done : List Step) (r : Remains) : Type 0 where
  pub a : IsImage (disk_of first done A) r.files.a
  pub b : IsImage (disk_of first done B) r.files.b
  pub log : r.log ≡ past ++ events_of done

-- what a crash now may leave
abbrev pub MayLeave : World → Remains → Type 0
MayLeave w r = Left w.first w.past w.steps r

-- what a crash from that moment on might have left
abbrev pub LeftSince : World → ℕ → Remains → Type 0
LeftSince w t r = (k : ℕ) × (t ≤ k) × (k ≤ length w.steps) × Left w.first w.past (take k w.steps) r

-- how often nobody waited at a door
abbrev pub idles_at : World → Doorway → ℕ
idles_at w Public = w.public_idles
idles_at w Operator = w.operator_idles

abbrev pub counts_of : World → Counts
counts_of w = record {
  disk = w.disk_faults;
  door = w.door_faults;
  hear = λ channel. (channel_at w.channels channel).hear_faults;
  show = λ channel. (channel_at w.channels channel).show_faults;
  not_yets = λ channel. (channel_at w.channels channel).not_yets;
  door_idles = idles_at w;
}

-- ---- what a call does

abbrev pub after_call : World → World
after_call w = record w { calls = next_count w.calls }

abbrev pub is_in : ℕ → List ℕ → Bool
is_in n [] = false
is_in n (m ∷ ms) = if m == n then true else is_in n ms

-- the call that comes next is to fail
abbrev pub is_listed : World → Bool
is_listed w = is_in w.calls w.failing

abbrev pub after_step : Step → World → World
after_step step w = record w { steps = w.steps ++ step ∷ [] }

-- where memory ran out
abbrev pub after_starving : World → World
after_starving w = record w { starved = next_count w.starved }

abbrev pub after_disk_fault : World → World
after_disk_fault w = record w { disk_faults = next_count w.disk_faults }

abbrev pub after_door_fault : World → World
after_door_fault w = record w { door_faults = next_count w.door_faults }

-- the first failure of the channel is logged
abbrev pub after_break : ℕ → World → World
after_break channel w =
    if has_broken channel (log_of w) then w else after_step (steps.Broke channel) w

abbrev pub after_hear_fault : ℕ → World → World
after_hear_fault channel w =
    after_break channel (record w { channels = at_channel channel hear_fault w.channels })

abbrev pub after_show_fault : ℕ → World → World
after_show_fault channel w =
    after_break channel (record w { channels = at_channel channel show_fault w.channels })

-- ---- links

-- of what waits at both doors, what waits at this one
abbrev pub waiting_of : Doorway → List (List Said) → List (List Said) → List (List Said)
waiting_of Public public operator = public
waiting_of Operator public operator = operator

-- the scripts of the links that wait at a door
abbrev pub waiting_at : World → Doorway → List (List Said)
waiting_at w door = waiting_of door w.at_public w.at_operator

abbrev pub with_waiting : Doorway → List (List Said) → World → World
with_waiting Public scripts w = record w { at_public = scripts }
with_waiting Operator scripts w = record w { at_operator = scripts }

-- a link with this script waits at the door, behind the others
abbrev pub after_link : Doorway → List Said → World → World
after_link door script w = with_waiting door (waiting_at w door ++ script ∷ []) w

-- nobody waited at the door
abbrev pub after_idle : Doorway → World → World
after_idle Public w = record w { public_idles = next_count w.public_idles }
after_idle Operator w = record w { operator_idles = next_count w.operator_idles }

-- what waits at each door once the first link of this one was taken
abbrev pub public_after : Doorway → List (List Said) → List (List Said)
public_after Public scripts = drop 1 scripts
public_after Operator scripts = scripts

abbrev pub operator_after : Doorway → List (List Said) → List (List Said)
operator_after Public scripts = scripts
operator_after Operator scripts = drop 1 scripts

-- The first link that waits at the door is taken, and has the least number that no channel had.
abbrev pub after_opening : Doorway → World → World
after_opening door w = record w {
  at_public = public_after door w.at_public;
  at_operator = operator_after door w.at_operator;
  channels = w.channels ++ new_channel (slice_index_or (waiting_at w door) 0 []) ∷ [];
  steps = w.steps ++ steps.Opened (length w.channels) door ∷ [];
}

-- ---- how a call ends

-- A call did its work, its number not being listed; or it failed so because it is listed, or so
-- where memory ran out.
abbrev pub Ends : {T : Type 0} → (T → World → World → Type 0) → (World → World) → (World → World)
    → Result T Failed → World → World → Type 0
Ends works fails starving (Ok x) old new = (is_listed old ≡ false) × works x (after_call old) new
Ends works fails starving (Err e) old new =
    ((is_listed old ≡ true) × (new ≡ fails (after_call old)))
    ⊎ (new ≡ starving (after_starving (after_call old)))

-- The same of a call that needs no memory.
abbrev pub EndsUnlessListed : {T : Type 0} → (T → World → World → Type 0) → (World → World)
    → Result T Failed → World → World → Type 0
EndsUnlessListed works fails (Ok x) old new = (is_listed old ≡ false) × works x (after_call old) new
EndsUnlessListed works fails (Err e) old new =
    (is_listed old ≡ true) × (new ≡ fails (after_call old))
