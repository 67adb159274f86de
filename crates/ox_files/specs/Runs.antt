-- Runs one after the other over the same files, each of which stops at whatever moment. A run that
-- stops before its first event counts for none: what it leaves, the run before it might have left.
use Rattle.std.specs.Prelude.{◌≡◌, ◌⊎◌, ℕ, suc, ◌≤◌, List, [], ◌∷◌, ◌++◌, take, Ok}
use Rattle.ox_outside.specs.Event.{Event}
use Rattle.ox_outside.specs.Files.{Files}
use Rattle.ox_feed.specs.Feed.{FeedLine}
use Rattle.ox_model.specs.Machine.{Machine, stack_of}
use Rattle.ox_files.specs.Moments.{acknowledgements_in, count, lines_in}
use Rattle.ox_model.specs.Replies.{after, replies}
use Rattle.ox_files.specs.Stands.{stands}
use Rattle.ox_files.specs.Survives.{Survives}

pub record Run : Type 0 where
  -- what it heard and showed until it stopped
  pub events : List Event
  -- the files that it left
  pub left : Files

-- whatever machine the files stand for that a run opens, those that it leaves survive its events
abbrev pub SurvivesFrom : Files → Run → Type 0
SurvivesFrom files run = (machine : Machine) → stands files ≡ Ok (stack_of machine)
    → Survives (replies machine) (λ lines. stack_of (after machine lines)) run.events run.left

-- each run opens the files that the one before it left
abbrev pub RunInTurn : Files → List Run → Type 0
RunInTurn files [] = Unit {0}
RunInTurn files (run ∷ runs) = SurvivesFrom files run × RunInTurn run.left runs

-- the files that the last run left
abbrev pub last_left : Files → List Run → Files
last_left files [] = files
last_left files (run ∷ runs) = last_left run.left runs

-- the first lines that a run heard
abbrev pub first_lines : ℕ → Run → List FeedLine
first_lines kept run = take kept (lines_in run.events)

-- the lines that runs kept, so many of the first ones each, one run after the other
abbrev pub kept_lines : List Run → List ℕ → List FeedLine
kept_lines (run ∷ runs) (kept ∷ more) = first_lines kept run ++ kept_lines runs more
kept_lines _ _ = []

-- Of a run that began with this machine so many lines are kept: all whose moment is in its log, or
-- all but the last of them; and each of whose answer a byte is shown is among them.
pub record Keeps (machine : Machine) (events : List Event) (kept : ℕ) : Type 0 where
  pub counted : (count (replies machine (lines_in events)) events ≡ kept)
      ⊎ (count (replies machine (lines_in events)) events ≡ suc kept)
  pub acknowledged : acknowledgements_in (replies machine (lines_in events)) events ≤ kept

-- the same of each run, which begins with the machine after the lines that were kept before
abbrev pub KeepInTurn : Machine → List Run → List ℕ → Type 0
KeepInTurn machine [] [] = Unit {0}
KeepInTurn machine (run ∷ runs) (kept ∷ more) =
    Keeps machine run.events kept × KeepInTurn (after machine (first_lines kept run)) runs more
KeepInTurn machine _ _ = ⊥

-- the last files stand for the machine after the lines that each run kept
pub record LastOf (machine : Machine) (files : Files) (runs : List Run) : Type 0 where
  pub kept : List ℕ
  pub each : KeepInTurn machine runs kept
  pub stands_for : stands (last_left files runs)
      ≡ Ok (stack_of (after machine (kept_lines runs kept)))
