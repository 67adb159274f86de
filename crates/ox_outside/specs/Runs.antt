-- What runs of calls promise, over all that a site means: `S.Site` in a clause.
use Rattle.std.specs.Prelude.{◌≡◌, ◌⊎◌, ℕ, ◌≤◌, Some, List}
use Rattle.ox_outside.specs.Counts.{NoneFell}
use Rattle.ox_outside.specs.Crash.{Remains, AddsNothing, LeavesFiles, MayLeaveFiles}
use Rattle.ox_outside.specs.Event.{Event}
use Rattle.ox_outside.specs.Log.{Grows}
use Rattle.ox_outside.specs.declared.site.Site.{Ghosts as Meanings}

-- What any number of calls promises, so what a function that calls a site passes on.
pub record Calls {S : Type 0} (means : Meanings S) (old new : S) : Type 0 where
  pub as_told : means.told new ≡ means.told old
  pub none_fell : NoneFell (means.counts old) (means.counts new)
  pub later : means.clock old ≤ means.clock new
  pub keeps : (t : ℕ) (r : Remains) → t ≤ means.clock old → means.left_since old t r
      → means.left_since new t r

-- A crash at any moment since old, during a call or between two, leaves what has P.
pub record LeavesOnly {S : Type 0} (means : Meanings S) (old new : S) (P : Remains → Type 0)
    : Type 0 where
  pub later : means.clock old ≤ means.clock new
  pub each : (r : Remains) → means.left_since new (means.clock old) r → P r
  -- for a run that began earlier
  pub before : (t : ℕ) (r : Remains) → t ≤ means.clock old → means.left_since new t r
      → means.left_since old t r ⊎ P r

-- A run of calls that only looks: the files, the log and what a crash may leave are as before, at
-- each moment of it.
pub record OnlyLooks {S : Type 0} (means : Meanings S) (old new : S) : Type 0 where
  pub calls : Calls means old new
  pub nothing : AddsNothing means.seen means.log means.may_leave old new
  pub moments : LeavesOnly means old new (means.may_leave old)

-- what remains has files that a crash might have left before, and its log has grown by events with
-- P
pub record Talked {S : Type 0} (means : Meanings S) (P : List Event → Type 0) (old : S)
    (r : Remains) : Type 0 where
  pub files : MayLeaveFiles means.may_leave old r.files
  pub grown : Grows P (means.log old) (Some r.log)

-- A run of calls on channels: the files read as before, and at each moment of it a crash leaves
-- files that it left before, with a log that has grown by events with P.
pub record OnlyTalks {S : Type 0} (means : Meanings S) (P : List Event → Type 0) (old new : S)
    : Type 0 where
  pub calls : Calls means old new
  pub files : LeavesFiles means.seen means.may_leave old new
  pub moments : LeavesOnly means old new (Talked means P old)
