-- One frame of a talk, for the functions below `run`: what stands in front of a reader, what a
-- party shows of it, and what a crash leaves meanwhile.
use Rattle.std.specs.Prelude.{◌≡◌, ◌⊎◌, ℕ, ◌+◌, ◌<◌, ◌||◌, false, Bool, IsTrue, IsErrOf}
use Rattle.std.specs.Prelude.{List, [], ◌++◌, length, Some, Result, Ok, Err}
use Rattle.std.specs.List.{concat}
use Rattle.ox_outside.specs.Counts.{StopsAtFault}
use Rattle.ox_outside.specs.Event.{Event, heard_bytes, shown_bytes, has_ended}
use Rattle.ox_outside.specs.Files.{Files}
use Rattle.ox_outside.specs.Shown.{IsFrontOf}
use Rattle.ox_outside.specs.declared.site.Site.{Ghosts as Meanings}
use Rattle.ox_feed.specs.Feed.{Feed, Listens, feed_limit}
use Rattle.ox_follow.specs.Frame.{FitsFrame, Frame, Have, plain, spelled}
use Rattle.ox_follow.specs.Talk.{End, Ends, Judged, Stays, Takes, judged}
use Rattle.ox_follow.specs.World.{Leader, Stood}
use Rattle.ox_follow.specs.declared.frame.Frame.{Frame as FrameValue}
use Rattle.ox_model.specs.Stack.{Stack}
use Rattle.ox_pieces.specs.Frames.{GivesFrame, HasBadFrame, behind_first, frames_in, with_first}
use Rattle.ox_pieces.specs.Stood.{rules_of, stood_in}
use Rattle.ox_app.specs.Headline.{OnlyOwn}
use Rattle.ox_app.specs.Show.{DiskFails, HearFails, ShowFails}
use Rattle.ox_app.specs.Status.{end_status}
use Rattle.ox_app.specs.Talks.{Party, followed_by, follower_party, have_texts, leader_party}
use Rattle.ox_app.specs.declared.status.Status.{Status}
use Rattle.ox_app.specs.declared.status.Status.TheVariants as ends

-- ---- faults

-- A fault ends a part of a run only where such a call failed in it, and no other did.
pub record Faults {S T : Type 0} (means : Meanings S) (result : Result T Status) (old new : S)
    : Type 0 where
  pub disk : IsErrOf result ends.DiskFault → DiskFails means old new
  pub hear : IsErrOf result ends.HearFault → HearFails means old new
  pub show : IsErrOf result ends.ShowFault → ShowFails means old new
  pub stops : StopsAtFault (IsErrOf result ends.DiskFault) (IsErrOf result ends.HearFault)
      (IsErrOf result ends.ShowFault) (means.counts old) (means.counts new)

-- the same of a run
abbrev pub RunFaults : {S : Type 0} → Meanings S → Status → S → S → Type 0
RunFaults means status old new = Faults {T = Unit {0}} means (Err status) old new

-- ---- what stands in front of a reader

-- a frame; or a fault, or nothing where channel 0 has ended, and with which status that ends a run
abbrev pub IsInFront : Status → Feed → Result FrameValue Status → Type 0
IsInFront over feed (Ok frame) = GivesFrame (plain frame) feed.rest
IsInFront over feed (Err status) =
    (HasBadFrame feed × (status ≡ ends.BadFrame))
    ⊎ (IsTrue feed.ended × (feed.rest ≡ []) × (status ≡ over))

-- ---- what a party shows

-- of these bytes it shows this first, and then as that party shows of those, whatever comes later
pub record ShowsFirst (party : Party) (bytes said : List ℕ) (next : Party) (behind : List ℕ)
    : Type 0 where
  pub text : (more : List ℕ) → party.text (bytes ++ more) ≡ said ++ next.text (behind ++ more)
  pub end : (more : List ℕ) (ended : Bool)
      → party.end (bytes ++ more) ended ≡ next.end (behind ++ more) ended

-- it shows nothing of what a reader has, and the run ends with this status
pub record EndsThere (party : Party) (feed : Feed) (status : Status) : Type 0 where
  pub end : End
  pub ends_as : status ≡ end_status end
  pub nothing : party.text feed.rest ≡ []
  pub by : party.end feed.rest feed.ended ≡ Some end

-- a reader has counted what was heard
pub record Counts (old new : Feed) (events : List Event) : Type 0 where
  pub only : OnlyOwn events
  pub count : new.heard ≡ old.heard + length (heard_bytes 0 events)
  pub ended : new.ended ≡ (old.ended || has_ended 0 events)

-- a talk went on from a party to the next one
pub record GoesOn (party : Party) (old : Feed) (next : Party) (new : Feed) (events : List Event)
    : Type 0 where
  pub counts : Counts old new events
  pub shows : ShowsFirst party (old.rest ++ heard_bytes 0 events) (shown_bytes 0 events) next
      new.rest

-- it ended, with this status
pub record EndsFrom (party : Party) (old new : Feed) (status : Status) (events : List Event)
    : Type 0 where
  pub counts : Counts old new events
  pub shown : IsFrontOf (shown_bytes 0 events) (party.text (old.rest ++ heard_bytes 0 events))
  pub whole : (end : End) → status ≡ end_status end
      → (shown_bytes 0 events ≡ party.text (old.rest ++ heard_bytes 0 events))
      × (party.end (old.rest ++ heard_bytes 0 events) new.ended ≡ Some end)
  pub too_much : status ≡ ends.TooMuch → (new.heard ≡ feed_limit) × (new.ended ≡ false)

-- either
abbrev pub TalksOn : {T : Type 0} → (T → Party) → Party → Feed → Result T Status → Feed
    → List Event → Type 0
TalksOn next party old (Ok x) new events = GoesOn party old (next x) new events
TalksOn next party old (Err status) new events = EndsFrom party old new status events

-- ---- a leader

-- this frame answers the Have in front
pub record IsAnswer (leader : Leader Stack) (feed : Feed) (answer : Frame) : Type 0 where
  pub fits : FitsFrame answer
  pub shows : ShowsFirst (leader_party leader) feed.rest (spelled answer) (leader_party leader)
      (behind_first feed.rest)
  pub shorter : length (behind_first feed.rest) < length feed.rest

-- what a leader makes of what stands in front: an answer, or the end of the run
abbrev pub AnswersInFront : Leader Stack → Feed → Result FrameValue Status → Type 0
AnswersInFront leader feed (Ok answer) = IsAnswer leader feed (plain answer)
AnswersInFront leader feed (Err status) = EndsThere (leader_party leader) feed status

-- ---- a follower

-- a follower whose Have of where it stands is shown
abbrev pub shown_follower : Stood Stack → Party
shown_follower mine = record {
  text = λ heard. concat (have_texts (followed_by mine (frames_in heard).frames).haves);
  end = (follower_party mine).end;
}

abbrev pub judged_by : Stood Stack → Frame → Judged Stack
judged_by mine frame = judged (rules_of mine.state) mine frame

-- a frame that is judged so leaves a follower there
abbrev pub LeavesAt : Stood Stack → Judged Stack → Stood Stack → Type 0
LeavesAt mine Stays next = next ≡ mine
LeavesAt mine (Takes taken) next = next ≡ taken
LeavesAt mine (Ends end) next = ⊥

-- it ends a run so, or a call on a file does, or want of memory
abbrev pub EndsBy : Judged Stack → Status → Type 0
EndsBy judged status =
    ((end : End) × (judged ≡ Ends end) × (status ≡ end_status end))
    ⊎ (status ≡ ends.DiskFault) ⊎ (status ≡ ends.Memory)

-- While a frame is taken a crash leaves files that stand where they stood, or where it leads.
abbrev pub StandAtEither : Stood Stack → Frame → Files → Type 0
StandAtEither mine frame files =
    (stood_in files ≡ Some mine)
    ⊎ ((next : Stood Stack) × LeavesAt mine (judged_by mine frame) next
    × (stood_in files ≡ Some next))

-- a whole frame was heard, which left the follower there
pub record TookFrame (mine : Stood Stack) (old : Feed) (next : Stood Stack) (new : Feed)
    (events : List Event) : Type 0 where
  pub counts : Counts old new events
  pub frame : Frame
  pub first : (more : List ℕ) → frames_in ((old.rest ++ heard_bytes 0 events) ++ more)
      ≡ with_first frame (frames_in (new.rest ++ more))
  pub leaves : LeavesAt mine (judged_by mine frame) next

-- a frame was taken and its Have shown; or the run ended
abbrev pub FollowsOn : {T : Type 0} → (T → Stood Stack) → Stood Stack → Feed → Result T Status
    → Feed → List Event → Type 0
FollowsOn stood mine old (Ok x) new events =
    TookFrame mine old (stood x) new events
    × (shown_bytes 0 events ≡ spelled (Have (stood x).at))
FollowsOn stood mine old (Err status) new events =
    EndsFrom (shown_follower mine) old new status events

-- files that stand where a frame left the follower, of whose Have a front was shown
pub record IsBehindFrame (mine : Stood Stack) (old : Feed) (files : Files)
    (events : List Event) : Type 0 where
  pub next : Stood Stack
  pub new : Feed
  pub took : TookFrame mine old next new events
  pub shown : IsFrontOf (shown_bytes 0 events) (spelled (Have next.at))
  pub stands_for : stood_in files ≡ Some next

-- what a crash leaves while a frame is heard and taken: files that stand where they stood; or, once
-- it was heard whole, where it leads
abbrev pub DuringFrame : Stood Stack → Feed → Files → List Event → Type 0
DuringFrame mine old files events =
    (Listens old events × (stood_in files ≡ Some mine)) ⊎ IsBehindFrame mine old files events
