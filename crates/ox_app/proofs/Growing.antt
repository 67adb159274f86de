-- A growing in a run: what a crash leaves while the store becomes one of version 3 and while its line is shown, and what is said behind a store that grew and behind one that didn't.
use Rattle.std.proofs.Common.{◌≡◌, ◌∙◌, ◌⊎◌, inl, inr, ℕ, List, [], ◌∷◌, Some, refl, subst, sym, ap}
use Rattle.std.specs.Prelude.{IsTrue, Option, None, Result, Ok, Err, IsErrOf}
use Rattle.ox_bytes.specs.Reading.{◌>>=◌}
use Rattle.ox_outside.specs.Counts.{Counts, NoFault, StopsAtFault}
use Rattle.ox_outside.specs.Crash.{Remains}
use Rattle.ox_outside.specs.Event.{Event}
use Rattle.ox_outside.specs.Files.{Files, file_of, other}
use Rattle.ox_outside.specs.Log.{Grows}
use Rattle.ox_outside.specs.Runs.{Calls, LeavesOnly, OnlyTalks}
use Rattle.ox_outside.specs.declared.site.Site.{Ghosts as Meanings}
use Rattle.ox_outside.specs.declared.site.Which.{Which}
use Rattle.ox_outside.proofs.Calls.{leaves_then, leaves_weaker}
use Rattle.ox_outside.proofs.Counts.{stops_as, went_on}
use Rattle.ox_outside.proofs.Log.{grows_none, grows_same, grows_weaker}
use Rattle.ox_gated.specs.OldReading.{growing_reading}
use Rattle.ox_gated.specs.OtherFile.{BeginsShut}
use Rattle.ox_gated.specs.Reading.{Found, Fault, IntactPart, is_any, reading}
use Rattle.ox_gated.specs.Tail.{IsSettled, Keeps, Kept, KeepsFound}
use Rattle.ox_gated.specs.Writes.{OnlyWrites}
use Rattle.ox_gated.specs.declared.fault.Halt.TheVariants as halts
use Rattle.ox_gated.specs.declared.head.Head.{Head}
use Rattle.ox_model.specs.Stack.{Stack}
use Rattle.ox_files.specs.Stands.{Misfit, in_file, place_of_cut, stack_in, stack_in_file, stands}
use Rattle.ox_store.specs.Grow.{HasGrown, StandsAsGrown, growing}
use Rattle.ox_store.specs.declared.fault.OpenFault.{OpenFault}
use Rattle.ox_store.specs.declared.fault.OpenFault.TheVariants as opens
use Rattle.ox_app.specs.Grow.{HasGrownFiles, LeavesGrowing, SaysNoGrowing}
use Rattle.ox_app.specs.Show.{EndsAtFault, ShowsFront}
use Rattle.ox_app.specs.Status.{IsGrowStatus, IsRefusal, IsUnopened}
use Rattle.ox_app.specs.Unopened.{UnopenedAs}
use Rattle.ox_app.specs.declared.status.Status.{Status}
use Rattle.ox_app.specs.declared.status.Status.TheVariants as ends
use Rattle.ox_app.proofs.Images.{grows_from, same_stack}
use Rattle.ox_app.proofs.Migrating.{leaves_both}
use Rattle.ox_app.proofs.Opening.{says_after}

-- ---- what the files stand for at version 2

pub not_grown : {A : Type 0} (standing : Result Stack Misfit) (stack : Stack) (misfit : Misfit) → standing ≡ Ok stack → standing ≡ Err misfit → A
not_grown standing stack misfit is fails = absurd (let e : Ok stack ≡ Err misfit = sym is ∙ fails in cc e)

-- where a stack is read, the files are
abbrev err_at : ℕ → Result Stack ℕ
err_at at = Err at

no_cut : (file : Which) (at : ℕ) (r : Result Stack ℕ) (stack : Stack) → in_file file (r >>= λ s. err_at at) ≡ Ok stack → ⊥
no_cut file at (Ok s) stack is = cc is
no_cut file at (Err a) stack is = cc is

no_stack : (file : Which) (at : ℕ) (before : Option IntactPart) (stack : Stack) → in_file file (place_of_cut at before) ≡ Ok stack → ⊥
no_stack file at None stack is = cc is
no_stack file at (Some before) stack is = no_cut file at (stack_in_file before.head before.body before.records) stack is

found_in : (standing : Result Found Fault) (stack : Stack) → stack_in standing ≡ Ok stack → (found : Found) × (standing ≡ Ok found)
found_in (Ok found) stack is = (found, refl)
found_in (Err fault) stack is = absurd (no_stack fault.file fault.at fault.before stack is)

-- what a tail keeps of files is read of them
read_of : (tail : Kept) (standing : Result Found Fault) → Keeps tail standing → (found : Found) × (standing ≡ Ok found) × KeepsFound tail found
read_of tail (Ok found) keeps = (found, refl, keeps)
read_of tail (Err fault) keeps = absurd keeps

shut_beside : (files : Files) (a b : Which) → a ≡ b → BeginsShut (file_of files (other a)) → BeginsShut (file_of files (other b))
shut_beside files a b same shut = subst (λ (w : Which). BeginsShut (file_of files (other w))) same shut

-- the files of a store that grew
pub grown_files : (old new : Files) (stack : Stack) (tail : Kept) → growing old ≡ Ok stack → ((found : Found) → growing_reading old ≡ Ok found → HasGrown found tail)
    → Keeps tail (reading is_any new) → BeginsShut (file_of new (other tail.file)) → HasGrownFiles new
grown_files old new stack tail stood turned keeps shut =
    let before = found_in (growing_reading old) stack stood in
    let after = read_of tail (reading is_any new) keeps in
    record {
      found = after.0;
      reads = after.1;
      version = ap (λ (h : Head). h.version) (sym after.2.head ∙ (turned before.0 before.1).head);
      shut = shut_beside new tail.file after.0.file after.2.file shut;
    }

-- ---- what a crash leaves

module _ {S : Type 0} (means : Meanings S) (stack : Stack) where
  abbrev LeavesFrom : S → Remains → Type 0
  LeavesFrom old r = Grows (LeavesGrowing means old stack r.files) (means.log old) (Some r.log)

  -- nothing was logged yet
  unlogged : (old : S) (r : Remains) → LeavesGrowing means old stack r.files [] → means.log old ≡ Some r.log → LeavesFrom old r
  unlogged old r leaves is =
      grows_same (LeavesGrowing means old stack r.files) (means.log old) (means.log old) (Some r.log)
      (grows_none (LeavesGrowing means old stack r.files) (means.log old) leaves) (sym is)

  either_store : (old : S) (r : Remains) → growing (means.seen old) ≡ Ok stack → (means.may_leave old r ⊎ StandsAsGrown (means.seen old) r.files) → LeavesGrowing means old stack r.files []
  either_store old r stood (inl left) = inl (r, left, refl)
  either_store old r stood (inr (made, is, grown)) = inr (grown ∙ ap Ok (same_stack (growing (means.seen old)) made stack is stood))

  logged_any : (old : S) (files : Files) (events : List Event) → stands files ≡ Ok stack → HasGrownFiles files → LeavesGrowing means old stack files events
  logged_any old files [] stood version = inr stood
  logged_any old files (event ∷ events) stood version = (stood, version)

  -- while the store grows
  pub while_grown : (old mid : S) → growing (means.seen old) ≡ Ok stack → LeavesOnly means old mid (λ r. means.may_leave old r ⊎ StandsAsGrown (means.seen old) r.files) → OnlyWrites means old mid
      → LeavesOnly means old mid (LeavesFrom old)
  while_grown old mid stood moments writes =
      leaves_weaker means old mid _ _ (λ r both. unlogged old r (either_store old r stood both.0) both.1) (leaves_both means old mid _ _ moments writes.moments)

  -- and then its line is shown
  pub grown_told : (line : List ℕ) (old mid new : S) → growing (means.seen old) ≡ Ok stack → stands (means.seen mid) ≡ Ok stack → HasGrownFiles (means.seen mid) → IsSettled means mid
      → LeavesOnly means old mid (λ r. means.may_leave old r ⊎ StandsAsGrown (means.seen old) r.files) → OnlyWrites means old mid → OnlyTalks means (ShowsFront line) mid new
      → LeavesOnly means old new (LeavesFrom old)
  grown_told line old mid new stood stands_now version settled moments writes talks =
      leaves_then means old mid new (LeavesFrom old) (while_grown old mid stood moments writes)
      (leaves_weaker means mid new _ _ (λ r talked.
      grows_from (LeavesGrowing means old stack r.files) (means.log old) (means.log mid) (Some r.log) writes.as_logged
      (grows_weaker (ShowsFront line) (LeavesGrowing means old stack r.files) (means.log mid) (Some r.log)
      (λ events shows.
      let same = talked.files.2 ∙ settled talked.files.0 talked.files.1 in
      logged_any old r.files events (ap stands same ∙ stands_now) (subst HasGrownFiles (sym same) version)) talked.grown)) talks.moments)

-- ---- statuses

-- where the line was shown
pub record OnlyToldGrown (status : Status) : Type 0 where
  pub store : status ≡ ends.NotStore → ⊥
  pub disk : status ≡ ends.DiskFault → ⊥

pub only_told_grown : (status : Status) → (status ≡ ends.Done) ⊎ (status ≡ ends.ShowFault) → OnlyToldGrown status
only_told_grown status (inl is) = record { store = λ e. cc e; disk = λ e. cc e }
only_told_grown status (inr is) = record { store = λ e. cc e; disk = λ e. cc e }

pub told_grow : (status : Status) → (status ≡ ends.Done) ⊎ (status ≡ ends.ShowFault) → IsGrowStatus status
told_grow status (inl is) = inl is
told_grow status (inr is) = inr (inr (inr (inl is)))

pub unopened_grow : (status : Status) → IsUnopened status → IsGrowStatus status
unopened_grow status (inl is) = inr (inl is)
unopened_grow status (inr (inl is)) = inr (inr (inl is))
unopened_grow status (inr (inr is)) = inr (inr (inr (inr is)))

-- ---- counts

pub grown_well : {T : Type 0} (x : T) (old new : Counts) → StopsAtFault (IsErrOf {T = T} {E = OpenFault} (Ok x) (opens.Halt halts.Disk)) ⊥ ⊥ old new → NoFault old new
grown_well {T} x old new stopped = went_on (IsErrOf {T = T} {E = OpenFault} (Ok x) (opens.Halt halts.Disk)) ⊥ ⊥ old new (λ is. cc is) (λ no. no) (λ no. no) stopped

pub not_disk_grown : {T : Type 0} (fault : OpenFault) (old new : Counts) → (fault ≡ opens.Halt halts.Disk → ⊥) → StopsAtFault (IsErrOf {T = T} (Err fault) (opens.Halt halts.Disk)) ⊥ ⊥ old new → NoFault old new
not_disk_grown {T} fault old new isnt stopped =
    went_on (IsErrOf {T = T} (Err fault) (opens.Halt halts.Disk)) ⊥ ⊥ old new (λ is. let e : fault ≡ opens.Halt halts.Disk = cc is in isnt e) (λ no. no) (λ no. no) stopped

-- a fault that isn't the disk's
pub misfit_isnt_disk : (fault : OpenFault) (file : Which) (at : ℕ) → fault ≡ opens.NotStore file at → fault ≡ opens.Halt halts.Disk → ⊥
misfit_isnt_disk fault file at is disk = let e : opens.NotStore file at ≡ opens.Halt halts.Disk = sym is ∙ disk in cc e

pub memory_isnt_disk : (fault : OpenFault) → fault ≡ opens.Halt halts.Memory → fault ≡ opens.Halt halts.Disk → ⊥
memory_isnt_disk fault is disk = let e : opens.Halt halts.Memory ≡ opens.Halt halts.Disk = sym is ∙ disk in cc e

pub disk_stops_growing : {T : Type 0} (fault : OpenFault) (old new : Counts) → StopsAtFault (IsErrOf {T = T} (Err fault) (opens.Halt halts.Disk)) ⊥ ⊥ old new → EndsAtFault ends.DiskFault old new
disk_stops_growing {T} fault old new stopped =
    stops_as (IsErrOf {T = T} (Err fault) (opens.Halt halts.Disk)) ⊥ ⊥ (ends.DiskFault ≡ ends.DiskFault) (ends.DiskFault ≡ ends.HearFault) ((ends.DiskFault ≡ ends.ShowFault) ⊎ IsRefusal ends.DiskFault) old new
    (λ is. refl) (λ no. absurd no) (λ no. absurd no) stopped

-- ---- lines

module _ {S : Type 0} (means : Meanings S) where
  pub ungrown_says : (file : Which) (at : ℕ) (status : Status) (old mid new : S) → Calls means old mid → means.log mid ≡ means.log old
      → (IsTrue (means.told old) → growing (means.seen old) ≡ Err (record { file = file; at = at })) → UnopenedAs means (opens.NotStore file at) status mid new → status ≡ ends.NotStore
      → SaysNoGrowing means old new
  ungrown_says file at status old mid new calls same fails (inl said) is = record {
    misfit = record { file = file; at = at };
    fails = fails;
    says = says_after means _ old mid new calls same said.1;
  }
  ungrown_says file at status old mid new calls same fails (inr quiet) is = absurd (let e : ends.Memory ≡ ends.NotStore = sym quiet.0 ∙ is in cc e)
