-- What remains of a site when it stops, and what each call lets remain.
use Rattle.std.specs.Prelude.{◌≡◌, ◌⊎◌, ℕ, ◌≤◌, Bool, Option, List}
use Rattle.ox_outside.specs.declared.site.Which.{Which}
use Rattle.ox_outside.specs.Counts.{Counts, NoneFell}
use Rattle.ox_outside.specs.Event.{Event}
use Rattle.ox_outside.specs.Files.{Files, file_of, TornFile}

-- the two files that a crash leaves, and the log as it stood then
pub record Remains : Type 0 where
  pub files : Files
  pub log : List Event

-- one file is torn by a write that was cut short, and all else is as it was
pub record Tears (file : Which) (at n : ℕ) (old new : Remains) : Type 0 where
  pub files : TornFile file at n old.files new.files
  pub log : new.log ≡ old.log

-- all that may remain now is what might have remained before, after a step
abbrev pub Follows : (Remains → Remains → Type 0) → (Remains → Type 0) → (Remains → Type 0) → Type 0
Follows step old new = (r : Remains) → new r → (q : Remains) × old q × step q r

-- of this file, a crash leaves these bytes and no others
abbrev pub Only : Which → List ℕ → (Remains → Type 0) → Type 0
Only file bytes may_leave = (r : Remains) → may_leave r → file_of r.files file ≡ bytes

-- The files read as before, the log is as before, and a crash leaves nothing that it didn't leave
-- before.
pub record AddsNothing {S : Type 0} (seen : S → Files) (log : S → Option (List Event))
    (may_leave : S → Remains → Type 0) (old new : S) : Type 0 where
  pub files : seen new ≡ seen old
  pub as_logged : log new ≡ log old
  pub crash : (r : Remains) → may_leave new r → may_leave old r

-- a crash at this site may leave these files
abbrev pub MayLeaveFiles : {S : Type 0} → (S → Remains → Type 0) → S → Files → Type 0
MayLeaveFiles may_leave site files = (q : Remains) × may_leave site q × (files ≡ q.files)

-- The files read as before, and a crash leaves the files that it left before, whatever the log
-- says.
pub record LeavesFiles {S : Type 0} (seen : S → Files) (may_leave : S → Remains → Type 0)
    (old new : S) : Type 0 where
  pub files : seen new ≡ seen old
  pub none_new : (r : Remains) → may_leave new r → MayLeaveFiles may_leave old r.files
  pub none_gone : (r : Remains) → may_leave old r → MayLeaveFiles may_leave new r.files

-- What every call of a site promises, whatever it is: no count falls, what is told stays told, and
-- time goes on. What might remain of a crash since t is what might have remained before the call,
-- or what may remain now.
pub record OneCall {S : Type 0} (told : S → Bool) (counts : S → Counts) (clock : S → ℕ)
    (may_leave : S → Remains → Type 0) (left_since : S → ℕ → Remains → Type 0)
    (old new : S) : Type 0 where
  pub as_told : told new ≡ told old
  pub none_fell : NoneFell (counts old) (counts new)
  pub later : clock old ≤ clock new
  pub nothing_else : (t : ℕ) (r : Remains) → t ≤ clock old → left_since new t r
      → left_since old t r ⊎ may_leave new r
  pub keeps : (t : ℕ) (r : Remains) → t ≤ clock old → left_since old t r → left_since new t r
