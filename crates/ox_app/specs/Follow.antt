-- What a crash leaves of a follower, and runs of followers one after the other.
use Rattle.std.specs.Prelude.{◌≡◌, ◌≢◌, ◌⊎◌, ℕ, List, [], ◌∷◌, take, All, Some}
use Rattle.ox_outside.specs.Crash.{Remains, MayLeaveFiles}
use Rattle.ox_outside.specs.Event.{Event, heard_bytes, shown_bytes}
use Rattle.ox_outside.specs.Files.{Files}
use Rattle.ox_outside.specs.Log.{Grows}
use Rattle.ox_outside.specs.Runs.{LeavesOnly}
use Rattle.ox_outside.specs.Shown.{acknowledgements}
use Rattle.ox_outside.specs.declared.site.Site.{Ghosts as Meanings}
use Rattle.ox_files.specs.Runs.{Run, last_left}
use Rattle.ox_follow.specs.Frame.{Frame}
use Rattle.ox_follow.specs.Position.{AtMost}
use Rattle.ox_follow.specs.World.{IsIn, Stood, World}
use Rattle.ox_follow.specs.declared.frame.Position.{Position}
use Rattle.ox_model.specs.Stack.{Stack}
use Rattle.ox_pieces.specs.Frames.{frames_in}
use Rattle.ox_pieces.specs.Stood.{stood_in}
use Rattle.ox_app.specs.Talks.{followed_by, have_texts, haves_of}

-- the frames that stand whole in what a run has heard on channel 0
abbrev pub frames_heard : List Event → List Frame
frames_heard log = (frames_in (heard_bytes 0 log)).frames

-- where a follower stands behind so many of them
abbrev pub led_to : Stood Stack → ℕ → List Event → Stood Stack
led_to mine kept log = (followed_by mine (take kept (frames_heard log))).now

-- of these Haves those of which a byte is shown
abbrev pub seen_of : List Position → List ℕ → List Position
seen_of haves shown = take (acknowledgements (have_texts haves) shown) haves

-- the Haves of a follower of which a byte is in a log
abbrev pub haves_seen : Stood Stack → List Event → List Position
haves_seen mine log = seen_of (haves_of mine (frames_heard log)) (shown_bytes 0 log)

-- Files that survive these events of a follower that began there.
pub record SurvivesFrames (mine : Stood Stack) (events : List Event) (files : Files)
    : Type 0 where
  -- they stand where so many of the first frames lead
  pub kept : ℕ
  pub stands_for : stood_in files ≡ Some (led_to mine kept events)
  -- which is at least each place of whose Have a byte was shown
  pub acknowledged : All (λ at. AtMost at (led_to mine kept events).at) (haves_seen mine events)

-- What a crash leaves when these events are logged; before the first of them, files that it might
-- have left before the run, or that stand where the run began.
abbrev pub LeavesFollowing : {S : Type 0} → (S → Remains → Type 0) → S → Stood Stack → Files
    → List Event → Type 0
LeavesFollowing may_leave site mine files [] =
    MayLeaveFiles may_leave site files ⊎ (stood_in files ≡ Some mine)
LeavesFollowing may_leave site mine files (event ∷ events) =
    SurvivesFrames mine (event ∷ events) files

-- a crash at any moment of a run leaves files that survive what it had heard and shown by then
abbrev pub SurvivesFollowing : {S : Type 0} → Meanings S → Stood Stack → S → S → Type 0
SurvivesFollowing means mine old new =
    LeavesOnly means old new (λ r.
    Grows (LeavesFollowing means.may_leave old mine r.files) (means.log old) (Some r.log))

-- ---- runs one after the other

-- wherever the files stand that a run of `follow` opens, those that it leaves survive its events
abbrev pub FollowsFrom : Files → Run → Type 0
FollowsFrom files run = (mine : Stood Stack) → stood_in files ≡ Some mine
    → SurvivesFrames mine run.events run.left

-- each run opens the files that the one before it left
abbrev pub FollowInTurn : Files → List Run → Type 0
FollowInTurn files [] = Unit {0}
FollowInTurn files (run ∷ runs) = FollowsFrom files run × FollowInTurn run.left runs

-- each frame that a run heard was sent in this world
abbrev pub HearsSent : World Stack → Run → Type 0
HearsSent world run = All (λ frame. IsIn frame world.sent) (frames_heard run.events)

-- the last files stand where the leader of this world once stood
pub record StandsWithLeader (world : World Stack) (files : Files) (runs : List Run)
    : Type 0 where
  pub last : Stood Stack
  pub stands_for : stood_in (last_left files runs) ≡ Some last
  pub once : IsIn last world.history

-- What a crash leaves behind a run's first event is a run as `followers_keep_to_leaders` counts
-- them: wherever the files stood that it opened, those that it leaves survive its events.
abbrev pub IsFollowInTurn : {S : Type 0} → Meanings S → S → S → Type 0
IsFollowInTurn means old new =
    LeavesOnly means old new (λ r.
    Grows (λ events. events ≢ []
    → FollowsFrom (means.seen old) (record { events = events; left = r.files }))
    (means.log old) (Some r.log))
