-- The migration of a store in a run: what its files stand for at version 1, what it shows, and what
-- a crash leaves.
use Rattle.std.specs.Prelude.{◌≡◌, ◌⊎◌, ℕ, IsTrue, List, [], ◌∷◌, ◌++◌, codes, decimal}
use Rattle.std.specs.Prelude.{Some, Ok, Err}
use Rattle.ox_outside.specs.Crash.{MayLeaveFiles}
use Rattle.ox_outside.specs.Event.{Event}
use Rattle.ox_outside.specs.Files.{Files}
use Rattle.ox_outside.specs.Log.{Grows}
use Rattle.ox_outside.specs.Runs.{LeavesOnly}
use Rattle.ox_outside.specs.declared.site.Site.{Ghosts as Meanings}
use Rattle.ox_gated.specs.Reading.{ReadsAlike}
use Rattle.ox_gated.specs.Tail.{IsSettled}
use Rattle.ox_rules.specs.Text.{refusal_line}
use Rattle.ox_rules.specs.declared.refusal.Refusal.{Refusal}
use Rattle.ox_model.specs.Stack.{Stack}
use Rattle.ox_files.specs.OldStands.{OldFault, IllFormed, Refused, old_stands}
use Rattle.ox_files.specs.Stands.{Misfit, stands}
use Rattle.ox_app.specs.Show.{Says}
use Rattle.ox_app.specs.Status.{IsUnopened}
use Rattle.ox_app.specs.Unopened.{not_store_line}
use Rattle.ox_app.specs.declared.status.Status.{Status}
use Rattle.ox_app.specs.declared.status.Status.TheVariants.{DiskFault, Memory, OldCommand}

-- ---- what a run begins with

-- the site tells its files, and at version 1 they stand for this stack, to which so many commands
-- lead by the present rules
pub record StandsForOld {S : Type 0} (means : Meanings S) (site : S) (stack : Stack)
    (commands : ℕ) : Type 0 where
  pub told : IsTrue (means.told site)
  pub stands_for : old_stands (means.seen site) ≡ Ok (stack, commands)

-- the site tells its files, and at version 1 they stand for none: this is what is wrong with them
pub record StandsForNoOld {S : Type 0} (means : Meanings S) (site : S)
    (fault : OldFault Misfit) : Type 0 where
  pub told : IsTrue (means.told site)
  pub fails : old_stands (means.seen site) ≡ Err fault

-- ---- lines

-- the line where a store was migrated: how many commands were carried out
unfoldable pub migrated_line : ℕ → List ℕ
migrated_line commands = codes "ok " ++ decimal commands ++ codes "\n"

-- the line where the present rules refuse a command: its number from 0, and the line of refusal
unfoldable pub old_line : ℕ → Refusal → List ℕ
old_line command refusal =
    codes "old " ++ decimal command ++ codes " " ++ refusal_line refusal

-- the line of the first test that fails is shown, where files are told, or a front of it where
-- showing failed
pub record SaysNoOldStore {S : Type 0} (means : Meanings S) (old new : S) : Type 0 where
  pub misfit : Misfit
  pub fails : IsTrue (means.told old) → old_stands (means.seen old) ≡ Err (IllFormed misfit)
  pub says : Says means (not_store_line misfit) old new

-- the line of the command that the present rules refuse, likewise
pub record SaysOldCommand {S : Type 0} (means : Meanings S) (old new : S) : Type 0 where
  pub command : ℕ
  pub refusal : Refusal
  pub fails : IsTrue (means.told old) → old_stands (means.seen old) ≡ Err (Refused command refusal)
  pub says : Says means (old_line command refusal) old new

-- how a refused command is answered: its line is shown, unless there is no memory for it
abbrev pub AnswersOld : {S : Type 0} → Meanings S → ℕ → Refusal → Status → S → S → Type 0
AnswersOld means command refusal status old new =
    ((status ≡ OldCommand) × Says means (old_line command refusal) old new)
    ⊎ ((status ≡ Memory) × (means.log new ≡ means.log old))

-- how a run may end over files of which this is wrong
abbrev pub IsUnmigrated : OldFault Misfit → Status → Type 0
IsUnmigrated (IllFormed misfit) status = IsUnopened status
IsUnmigrated (Refused command refusal) status =
    (status ≡ OldCommand) ⊎ (status ≡ DiskFault) ⊎ (status ≡ Memory)

-- ---- what a crash leaves

-- the files stand for this stack, and no crash leaves other ones
abbrev pub IsMigrated : {S : Type 0} → Meanings S → Stack → S → Type 0
IsMigrated means stack site = (stands (means.seen site) ≡ Ok stack) × IsSettled means site

-- files that hold the same commands of version 1, so many, and stand for the same stack by them
pub record StandsStill (old : Files) (stack : Stack) (commands : ℕ) (files : Files) : Type 0 where
  pub reads : ReadsAlike old files
  pub stands_for : old_stands files ≡ Ok (stack, commands)

-- What a crash leaves when these events are logged. Before the first of them: files that it might
-- have left before the run; or that hold the commands that were found; or that stand for their
-- stack at version 2. With an event: the last alone.
abbrev pub LeavesMigrating : {S : Type 0} → Meanings S → S → Stack → ℕ → Files → List Event
    → Type 0
LeavesMigrating means site stack commands files [] =
    MayLeaveFiles means.may_leave site files
    ⊎ StandsStill (means.seen site) stack commands files ⊎ (stands files ≡ Ok stack)
LeavesMigrating means site stack commands files (event ∷ events) = stands files ≡ Ok stack

-- so it is at each moment of a run
abbrev pub MigratesFirst : {S : Type 0} → Meanings S → Stack → ℕ → S → S → Type 0
MigratesFirst means stack commands old new =
    LeavesOnly means old new (λ r.
    Grows (LeavesMigrating means old stack commands r.files)
    (means.log old) (Some r.log))
