-- Migrations: what is said of a run behind a store that was migrated, and behind one that wasn't.
use Rattle.std.proofs.Common.{◌≡◌, ◌∙◌, ◌⊎◌, inl, inr, ℕ, refl, sym}
use Rattle.std.specs.Prelude.{IsTrue, Result, Ok, Err, IsErrOf}
use Rattle.ox_outside.specs.Counts.{Counts, NoFault, StopsAtFault}
use Rattle.ox_outside.specs.Runs.{Calls}
use Rattle.ox_outside.specs.declared.site.Site.{Ghosts as Meanings}
use Rattle.ox_outside.specs.declared.site.Which.{Which}
use Rattle.ox_outside.proofs.Counts.{stops_after, stops_as, went_on}
use Rattle.ox_gated.specs.declared.fault.Halt.TheVariants as halts
use Rattle.ox_model.specs.Stack.{Stack}
use Rattle.ox_rules.specs.declared.refusal.Refusal.{Refusal}
use Rattle.ox_files.specs.OldStands.{OldFault, IllFormed, Refused, old_stands}
use Rattle.ox_files.specs.Stands.{Misfit}
use Rattle.ox_store.specs.declared.fault.MigrateFault.{MigrateFault}
use Rattle.ox_store.specs.declared.fault.MigrateFault.TheVariants as migrates
use Rattle.ox_store.specs.declared.fault.OpenFault.TheVariants as opens
use Rattle.ox_app.specs.Migrate.{AnswersOld, IsUnmigrated, SaysNoOldStore, SaysOldCommand}
use Rattle.ox_app.specs.Show.{EndsAtFault}
use Rattle.ox_app.specs.Status.{IsMigrateStatus, IsRefusal, IsUnopened}
use Rattle.ox_app.specs.Unopened.{UnopenedAs}
use Rattle.ox_app.specs.declared.status.Status.{Status}
use Rattle.ox_app.specs.declared.status.Status.TheVariants as ends
use Rattle.ox_app.proofs.Opening.{says_after}

-- ---- what the files stand for at version 1

pub not_migrated : {A : Type 0} (standing : Result (Stack × ℕ) (OldFault Misfit)) (made : Stack × ℕ) (fault : OldFault Misfit) → standing ≡ Ok made → standing ≡ Err fault → A
not_migrated standing made fault is fails = absurd (let e : Ok made ≡ Err fault = sym is ∙ fails in cc e)

same_fault : (standing : Result (Stack × ℕ) (OldFault Misfit)) (a b : OldFault Misfit) → standing ≡ Err a → standing ≡ Err b → a ≡ b
same_fault standing a b e f = cc (sym e ∙ f)

-- ---- statuses

pub memory_unmigrated : (fault : OldFault Misfit) → IsUnmigrated fault ends.Memory
memory_unmigrated (IllFormed misfit) = inr (inr refl)
memory_unmigrated (Refused command refusal) = inr (inr refl)

pub disk_unmigrated : (fault : OldFault Misfit) → IsUnmigrated fault ends.DiskFault
disk_unmigrated (IllFormed misfit) = inr (inl refl)
disk_unmigrated (Refused command refusal) = inr (inl refl)

pub ill_unmigrated : (standing : Result (Stack × ℕ) (OldFault Misfit)) (misfit : Misfit) (fault : OldFault Misfit) (status : Status) → standing ≡ Err (IllFormed misfit) → standing ≡ Err fault → IsUnopened status
    → IsUnmigrated fault status
ill_unmigrated standing misfit (IllFormed other) status ill failed ends_ = ends_
ill_unmigrated standing misfit (Refused command refusal) status ill failed ends_ = absurd (let e : IllFormed misfit ≡ Refused command refusal = same_fault standing _ _ ill failed in cc e)

pub refused_unmigrated : (standing : Result (Stack × ℕ) (OldFault Misfit)) (command : ℕ) (refusal : Refusal) (fault : OldFault Misfit) (status : Status) → standing ≡ Err (Refused command refusal) → standing ≡ Err fault
    → (status ≡ ends.OldCommand) ⊎ (status ≡ ends.Memory) → IsUnmigrated fault status
refused_unmigrated standing command refusal (IllFormed misfit) status old failed ends_ = absurd (let e : Refused command refusal ≡ IllFormed misfit = same_fault standing _ _ old failed in cc e)
refused_unmigrated standing command refusal (Refused other why) status old failed (inl is) = inl is
refused_unmigrated standing command refusal (Refused other why) status old failed (inr is) = inr (inr is)

-- where the line was shown
pub record OnlyToldOld (status : Status) : Type 0 where
  pub store : status ≡ ends.NotStore → ⊥
  pub old : status ≡ ends.OldCommand → ⊥
  pub memory : status ≡ ends.Memory → ⊥
  pub disk : status ≡ ends.DiskFault → ⊥

pub only_told_old : (status : Status) → (status ≡ ends.Done) ⊎ (status ≡ ends.ShowFault) → OnlyToldOld status
only_told_old status (inl is) = record { store = λ e. cc e; old = λ e. cc e; memory = λ e. cc e; disk = λ e. cc e }
only_told_old status (inr is) = record { store = λ e. cc e; old = λ e. cc e; memory = λ e. cc e; disk = λ e. cc e }

-- where files of no store were explained
pub record ApartUnopened (status : Status) : Type 0 where
  pub old : status ≡ ends.OldCommand → ⊥
  pub show : status ≡ ends.ShowFault → ⊥

pub unopened_apart : (status : Status) → IsUnopened status → ApartUnopened status
unopened_apart status (inl is) = record { old = λ e. cc e; show = λ e. cc e }
unopened_apart status (inr (inl is)) = record { old = λ e. cc e; show = λ e. cc e }
unopened_apart status (inr (inr is)) = record { old = λ e. cc e; show = λ e. cc e }

pub unopened_migrate : (status : Status) → IsUnopened status → IsMigrateStatus status
unopened_migrate status (inl is) = inr (inl is)
unopened_migrate status (inr (inl is)) = inr (inr (inl is))
unopened_migrate status (inr (inr is)) = inr (inr (inr (inr (inl is))))

-- where a refused command was explained
pub record ApartOld (status : Status) : Type 0 where
  pub store : status ≡ ends.NotStore → ⊥
  pub show : status ≡ ends.ShowFault → ⊥
  pub disk : status ≡ ends.DiskFault → ⊥

pub old_not_store : (status : Status) → (status ≡ ends.OldCommand) ⊎ (status ≡ ends.Memory) → ApartOld status
old_not_store status (inl is) = record { store = λ e. cc e; show = λ e. cc e; disk = λ e. cc e }
old_not_store status (inr is) = record { store = λ e. cc e; show = λ e. cc e; disk = λ e. cc e }

-- ---- counts

pub migrated_well : {T : Type 0} (x : T) (old new : Counts) → StopsAtFault (IsErrOf {T = T} {E = MigrateFault} (Ok x) (migrates.Halt halts.Disk)) ⊥ ⊥ old new → NoFault old new
migrated_well {T} x old new stopped = went_on (IsErrOf {T = T} {E = MigrateFault} (Ok x) (migrates.Halt halts.Disk)) ⊥ ⊥ old new (λ is. cc is) (λ no. no) (λ no. no) stopped

pub not_disk_old : {T : Type 0} (fault : MigrateFault) (old new : Counts) → (fault ≡ migrates.Halt halts.Disk → ⊥) → StopsAtFault (IsErrOf {T = T} (Err fault) (migrates.Halt halts.Disk)) ⊥ ⊥ old new → NoFault old new
not_disk_old {T} fault old new other stopped =
    went_on (IsErrOf {T = T} (Err fault) (migrates.Halt halts.Disk)) ⊥ ⊥ old new (λ is. let e : fault ≡ migrates.Halt halts.Disk = cc is in other e) (λ no. no) (λ no. no) stopped

-- a fault that isn't the disk's
pub store_isnt_disk : (fault : MigrateFault) (file : Which) (at : ℕ) → fault ≡ migrates.NotStore file at → fault ≡ migrates.Halt halts.Disk → ⊥
store_isnt_disk fault file at is other = let e : migrates.NotStore file at ≡ migrates.Halt halts.Disk = sym is ∙ other in cc e

pub old_isnt_disk : (fault : MigrateFault) (command : ℕ) (refusal : Refusal) → fault ≡ migrates.Old command refusal → fault ≡ migrates.Halt halts.Disk → ⊥
old_isnt_disk fault command refusal is other = let e : migrates.Old command refusal ≡ migrates.Halt halts.Disk = sym is ∙ other in cc e

pub memory_isnt_disk : (fault : MigrateFault) → fault ≡ migrates.Halt halts.Memory → fault ≡ migrates.Halt halts.Disk → ⊥
memory_isnt_disk fault is other = let e : migrates.Halt halts.Memory ≡ migrates.Halt halts.Disk = sym is ∙ other in cc e

pub disk_stops : {T : Type 0} (fault : MigrateFault) (old new : Counts) → StopsAtFault (IsErrOf {T = T} (Err fault) (migrates.Halt halts.Disk)) ⊥ ⊥ old new → EndsAtFault ends.DiskFault old new
disk_stops {T} fault old new stopped =
    stops_as (IsErrOf {T = T} (Err fault) (migrates.Halt halts.Disk)) ⊥ ⊥ (ends.DiskFault ≡ ends.DiskFault) (ends.DiskFault ≡ ends.HearFault) ((ends.DiskFault ≡ ends.ShowFault) ⊎ IsRefusal ends.DiskFault) old new
    (λ is. refl) (λ no. absurd no) (λ no. absurd no) stopped

-- a line of refusal is shown behind calls of which none failed
pub unmigrated_stops : (status : Status) (old mid new : Counts) → NoFault old mid → StopsAtFault ⊥ ⊥ (status ≡ ends.NotStore) mid new → EndsAtFault status old new
unmigrated_stops status old mid new none stopped =
    stops_after (status ≡ ends.DiskFault) (status ≡ ends.HearFault) ((status ≡ ends.ShowFault) ⊎ IsRefusal status) old mid new none
    (stops_as ⊥ ⊥ (status ≡ ends.NotStore) (status ≡ ends.DiskFault) (status ≡ ends.HearFault) ((status ≡ ends.ShowFault) ⊎ IsRefusal status) mid new
    (λ no. absurd no) (λ no. absurd no) (λ is. inr (inr (inr (inl is)))) stopped)

pub old_stops : (status : Status) (old mid new : Counts) → NoFault old mid → StopsAtFault ⊥ ⊥ (status ≡ ends.OldCommand) mid new → EndsAtFault status old new
old_stops status old mid new none stopped =
    stops_after (status ≡ ends.DiskFault) (status ≡ ends.HearFault) ((status ≡ ends.ShowFault) ⊎ IsRefusal status) old mid new none
    (stops_as ⊥ ⊥ (status ≡ ends.OldCommand) (status ≡ ends.DiskFault) (status ≡ ends.HearFault) ((status ≡ ends.ShowFault) ⊎ IsRefusal status) mid new
    (λ no. absurd no) (λ no. absurd no) (λ is. inr (inr (inr (inr is)))) stopped)

-- ---- lines

module _ {S : Type 0} (means : Meanings S) where
  pub unmigrated_disk : (file : Which) (at : ℕ) (status : Status) (old new : S) → UnopenedAs means (opens.NotStore file at) status old new → status ≡ ends.DiskFault → ⊥
  unmigrated_disk file at status old new (inl said) is = let e : ends.NotStore ≡ ends.DiskFault = sym said.0 ∙ is in cc e
  unmigrated_disk file at status old new (inr quiet) is = let e : ends.Memory ≡ ends.DiskFault = sym quiet.0 ∙ is in cc e

  pub unmigrated_says : (file : Which) (at : ℕ) (status : Status) (old mid new : S) → Calls means old mid → means.log mid ≡ means.log old
      → (IsTrue (means.told old) → old_stands (means.seen old) ≡ Err (IllFormed (record { file = file; at = at }))) → UnopenedAs means (opens.NotStore file at) status mid new → status ≡ ends.NotStore
      → SaysNoOldStore means old new
  unmigrated_says file at status old mid new calls same fails (inl said) is = record {
    misfit = record { file = file; at = at };
    fails = fails;
    says = says_after means _ old mid new calls same said.1;
  }
  unmigrated_says file at status old mid new calls same fails (inr quiet) is = absurd (let e : ends.Memory ≡ ends.NotStore = sym quiet.0 ∙ is in cc e)

  module _ (command : ℕ) (refusal : Refusal) (status : Status) where
    pub old_ends : (old new : S) → AnswersOld means command refusal status old new → (status ≡ ends.OldCommand) ⊎ (status ≡ ends.Memory)
    old_ends old new (inl said) = inl said.0
    old_ends old new (inr quiet) = inr quiet.0

    pub old_quiet : (old new : S) → AnswersOld means command refusal status old new → (status ≡ ends.OldCommand → ⊥) → means.log new ≡ means.log old
    old_quiet old new (inl said) isnt = absurd (isnt said.0)
    old_quiet old new (inr quiet) isnt = quiet.1

    pub old_says : (old mid new : S) → Calls means old mid → means.log mid ≡ means.log old → (IsTrue (means.told old) → old_stands (means.seen old) ≡ Err (Refused command refusal))
        → AnswersOld means command refusal status mid new → status ≡ ends.OldCommand → SaysOldCommand means old new
    old_says old mid new calls same fails (inl said) is = record { command = command; refusal = refusal; fails = fails; says = says_after means _ old mid new calls same said.1 }
    old_says old mid new calls same fails (inr quiet) is = absurd (let e : ends.Memory ≡ ends.OldCommand = sym quiet.0 ∙ is in cc e)
