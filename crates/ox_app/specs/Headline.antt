-- The headline, from top to bottom: whatever lines come on channel 0 and at whatever moment a run
-- stops, opening the files gives the index that fresh indexing of the chain gives that some first
-- lines chose; these hold each line of whose answer a byte was shown; and what was shown answers no
-- more than these lines. `run` says it by `survives`, and by `applies` and `out_of_memory` of
-- `Applies`.
--
-- The words below it are those of ox_model: `replies machine lines` are the answers to lines, each
-- by fresh indexing of the machine's blocks then, `after machine lines` is the machine that they
-- lead to, `stack_of` is what its answers depend on, and `stands files` is the stack that files
-- stand for.
use Rattle.std.specs.Prelude.{◌≡◌, ◌≢◌, ◌⊎◌, ℕ, suc, ◌≤◌, true, false, IsTrue, List, [], ◌∷◌}
use Rattle.std.specs.Prelude.{length, take, All, Some, Ok, Err}
use Rattle.std.specs.List.{concat}
use Rattle.ox_outside.specs.Crash.{Remains, MayLeaveFiles}
use Rattle.ox_outside.specs.Event.{Event, channel_of, heard_bytes, shown_bytes, has_ended}
use Rattle.ox_outside.specs.Files.{Files}
use Rattle.ox_outside.specs.Log.{Grows}
use Rattle.ox_outside.specs.declared.site.Site.{Ghosts as Meanings}
use Rattle.ox_feed.specs.Feed.{FeedLine, feed_limit}
use Rattle.ox_model.specs.Machine.{Machine, stack_of}
use Rattle.ox_files.specs.Moments.{count, lines_in}
use Rattle.ox_files.specs.Runs.{SurvivesFrom}
use Rattle.ox_model.specs.Replies.{after, replies}
use Rattle.ox_model.specs.Stack.{Stack}
use Rattle.ox_files.specs.Stands.{Misfit, stands}
pub use Rattle.ox_files.specs.Survives.{Survives}
pub use Rattle.ox_outside.specs.Shown.{IsFrontOf}
use Rattle.ox_outside.specs.Runs.{LeavesOnly}
use Rattle.ox_app.specs.declared.status.Status.{Status}
use Rattle.ox_app.specs.declared.status.Status.TheVariants.{Done, TooMuch}

-- ---- what a run begins with

-- the site tells its files, and they stand for this stack
pub record StandsFor {S : Type 0} (means : Meanings S) (site : S) (stack : Stack) : Type 0 where
  pub told : IsTrue (means.told site)
  pub stands_for : stands (means.seen site) ≡ Ok stack

-- the site tells its files, and they stand for none: this test is the first that fails
pub record StandsForNone {S : Type 0} (means : Meanings S) (site : S)
    (misfit : Misfit) : Type 0 where
  pub told : IsTrue (means.told site)
  pub fails : stands (means.seen site) ≡ Err misfit

-- ---- what is shown

-- events of channel 0 alone
abbrev pub OnlyOwn : List Event → Type 0
OnlyOwn events = All (λ event. channel_of event ≡ 0) events

-- Of a feed whose lines have these answers: what was shown begins the answers to the lines heard,
-- and the status says how the run ended.
pub record RunsFeed (answers : List FeedLine → List (List ℕ)) (status : Status)
    (events : List Event) : Type 0 where
  pub only : OnlyOwn events
  pub shown : IsFrontOf (shown_bytes 0 events) (concat (answers (lines_in events)))
  -- each line was answered, and channel 0 was read to its end
  pub whole : status ≡ Done
      → (shown_bytes 0 events ≡ concat (answers (lines_in events))) × (has_ended 0 events ≡ true)
  -- no more is heard than a feed may have, and a run is given up for it exactly there
  pub within : length (heard_bytes 0 events) ≤ feed_limit
  pub too_much : status ≡ TooMuch
      → (length (heard_bytes 0 events) ≡ feed_limit) × (has_ended 0 events ≡ false)

-- a run answers the feed from this machine on
abbrev pub AnswersFeed : {S : Type 0} → Meanings S → Machine → Status → S → S → Type 0
AnswersFeed means machine status old new =
    Grows (RunsFeed (replies machine) status) (means.log old) (means.log new)

-- ---- what a crash leaves

-- What a crash leaves when these events are logged; before the first of them, files that it might
-- have left before the run, or that stand for the stack that was opened.
abbrev pub Leaves : {S : Type 0} → (S → Remains → Type 0) → S → (List FeedLine → List (List ℕ))
    → (List FeedLine → Stack) → Files → List Event → Type 0
Leaves may_leave site answers leads files [] =
    MayLeaveFiles may_leave site files ⊎ (stands files ≡ Ok (leads []))
Leaves may_leave site answers leads files (event ∷ events) =
    Survives answers leads (event ∷ events) files

-- the stack after lines, by fresh indexing of the machine's blocks then
abbrev pub stack_after : Machine → List FeedLine → Stack
stack_after machine lines = stack_of (after machine lines)

-- a crash at any moment of a run leaves files that survive what the run had logged by then
abbrev pub SurvivesCrash : {S : Type 0} → Meanings S → Machine → S → S → Type 0
SurvivesCrash means machine old new =
    LeavesOnly means old new (λ r.
    Grows (Leaves means.may_leave old (replies machine) (stack_after machine) r.files)
    (means.log old) (Some r.log))

-- at no moment of a run does a crash leave files that it might not have left before
abbrev pub AddsNoImage : {S : Type 0} → Meanings S → S → S → Type 0
AddsNoImage means old new =
    LeavesOnly means old new (λ r. MayLeaveFiles means.may_leave old r.files)

-- ---- where memory runs out

-- The line at which memory ran out is counted and isn't carried out.
pub record StopsBefore (answers : List FeedLine → List (List ℕ)) (leads : List FeedLine → Stack)
    (files : Files) (events : List Event) : Type 0 where
  -- so many lines were carried out
  pub kept : ℕ
  pub counted : (count (answers (lines_in events)) events ≡ kept)
      ⊎ (count (answers (lines_in events)) events ≡ suc kept)
  -- shown is what answers them, and the files stand for where they lead
  pub shown : shown_bytes 0 events ≡ concat (answers (take kept (lines_in events)))
  pub stands_for : stands files ≡ Ok (leads (take kept (lines_in events)))

-- a run stops before the line for which there is no memory, whatever of its files a crash leaves
abbrev pub StopsAtLine : {S : Type 0} → Meanings S → Machine → S → S → Type 0
StopsAtLine means machine old new = (r : Remains) → means.may_leave new r
    → Grows (StopsBefore (replies machine) (stack_after machine) r.files) (means.log old)
    (Some r.log)

-- ---- runs one after the other

-- What a crash leaves behind a run's first event is a run as `runs_follow_chains` counts them:
-- whatever machine the files stood for that it opened, those that it leaves survive its events.
abbrev pub IsRunInTurn : {S : Type 0} → Meanings S → S → S → Type 0
IsRunInTurn means old new =
    LeavesOnly means old new (λ r.
    Grows (λ events. events ≢ []
    → SurvivesFrom (means.seen old) (record { events = events; left = r.files }))
    (means.log old) (Some r.log))
