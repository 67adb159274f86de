-- What a store of version 1 is migrated to, and why it isn't.
use Rattle.std.proofs.Common.{◌≡◌, ◌≢◌, ◌∙◌, inl, inr, ⊎_elim, ℕ, Bool, true, false, List, [], refl, sym, ap, subst}
use Rattle.std.specs.Prelude.{◌&&◌, ◌||◌, ◌==◌, ◌⊎◌, not, nat_le, nat_lt, if◌then◌else◌, Option, Some, None, Result, Ok, Err}
use Rattle.std.proofs.lemmas.Bool.{false≢true}
use Rattle.ox_bytes.specs.Reading.{◌>>=◌}
use Rattle.std.specs.Result.{OnOk}
use Rattle.ox_outside.specs.Counts.{Counts, NoFault, StopsAtFault}
use Rattle.ox_outside.specs.Files.{Files, file_of, other}
use Rattle.ox_outside.specs.Runs.{LeavesOnly, OnlyLooks}
use Rattle.ox_outside.specs.declared.site.Site.{Ghosts as Meanings}
use Rattle.ox_outside.specs.declared.site.Which.{Which}
use Rattle.ox_outside.specs.declared.site.Which.TheVariants.{A, B}
use Rattle.ox_outside.proofs.Calls.{leaves_then, leaves_weaker}
use Rattle.ox_outside.proofs.Counts.{went_on}
use Rattle.ox_gated.specs.Layout.{Whole, is_lawful}
use Rattle.ox_gated.specs.OldReading.{old_reading}
use Rattle.ox_gated.specs.OtherFile.{IsOldOrNew, IsSpared, last_generation, tail_of_other}
use Rattle.ox_gated.specs.Pick.{Choice, choice_of}
use Rattle.ox_gated.specs.Reading.{Fault, Found, IntactPart, ReadsAlike, body_reading, fault_at, is_any, is_old, reading, reading_by}
use Rattle.ox_gated.specs.Tail.{Keeps, Kept}
use Rattle.ox_gated.proofs.OldReading.{old_is_reading}
use Rattle.ox_gated.specs.declared.head.Head.{Head}
use Rattle.ox_gated.specs.declared.records.Record.{Record}
use Rattle.ox_model.specs.Stack.{Stack}
use Rattle.ox_files.specs.OldStands.{OldFault, IllFormed, Refused, old_fault_of_cut, old_in_file, old_stack_in_file, old_stands, with_count}
use Rattle.ox_files.specs.Stands.{stack_in_file}
use Rattle.ox_files.proofs.OldFiles.{old_file_counts, old_stands_alike}
use Rattle.ox_replay.specs.Replay.{IsReplayFault}
use Rattle.ox_replay.specs.declared.chains.ReplayFault.{ReplayFault}
use Rattle.ox_replay.specs.declared.chains.ReplayFault.TheVariants as replays
use Rattle.ox_store.specs.Heads.{Names}
use Rattle.ox_store.specs.Migrate.{HasMigrated, IsOldFault, IsOldOrMigrated, StaysOld, migrated_head, old_fault_in}
use Rattle.ox_store.proofs.FilesOfStores.{after_turn}

-- ---- the head

pub first_for : (a b c d e f : Bool) → (a && b && c && d && e) ≡ true → f ≡ true → (f && b && c && d && e) ≡ true
first_for true b c d e true is first = is
first_for true b c d e false is first = absurd (false≢true first)
first_for false b c d e f is first = absurd (false≢true is)

-- the head of an old file, at version 2, names the stack that its commands lead to
pub names_migrated : (head : Head) (body : List ℕ) (records : List Record) (stack : Stack) → is_lawful head ≡ true → old_stack_in_file head body records ≡ Ok stack → Names (record head { version = 2 }) stack
names_migrated head body records stack lawful is =
    let counts = old_file_counts head body records stack is in
    record {
      version = refl;
      lawful = first_for (head.version == 1 || head.version == 2 || head.version == 3) (nat_lt head.profile 3) (nat_le 1 head.depth) (nat_le head.depth 1000) (not (head.generation == 0)) (2 == 1 || 2 == 2 || 2 == 3) lawful refl;
      profile = sym counts.profile;
      depth = sym counts.depth;
    }

-- ---- what is wrong

err_same : {X F : Type 0} (e f : F) → ◌≡◌ {A = Result X F} (Err e) (Err f) → e ≡ f
err_same e f is = cc is

counted_fault : (commands : ℕ) (judging : Result Stack (OldFault ℕ)) (fault : OldFault ℕ) → judging ≡ Err fault → with_count commands judging ≡ Err fault
counted_fault commands judging fault is = ap (with_count commands) is

-- a file whose records are all there
pub fault_found : (file : Which) (commands : ℕ) (judging : Result Stack (OldFault ℕ)) (fault : ReplayFault) → IsReplayFault judging fault
    → IsOldFault (old_in_file file (with_count commands judging)) (old_fault_in file fault)
fault_found file commands judging (replays.At place) is = ap (old_in_file file) (counted_fault commands judging (IllFormed place) is)
fault_found file commands judging (replays.Old command refusal) is = ap (old_in_file file) (counted_fault commands judging (Refused command refusal) is)
fault_found file commands judging replays.Memory is = tt

cut_behind : (at : ℕ) (judging : Result Stack (OldFault ℕ)) (fault : OldFault ℕ) → ◌≡◌ {A = Result Stack (OldFault ℕ)} (judging >>= λ stack. Err (IllFormed at)) (Err fault)
    → ◌≡◌ {A = Result (Stack × ℕ) (OldFault ℕ)} (judging >>= λ stack. Err (IllFormed at)) (Err fault)
cut_behind at (Ok stack) fault is = ap Err (err_same {X = Stack} (IllFormed at) fault is)
cut_behind at (Err e) fault is = ap Err (err_same {X = Stack} e fault is)

cut_alike : (at : ℕ) (before : Option IntactPart) (fault : OldFault ℕ) → old_fault_of_cut {X = Stack} at before ≡ Err fault → old_fault_of_cut {X = Stack × ℕ} at before ≡ Err fault
cut_alike at None fault is = ap Err (err_same {X = Stack} (IllFormed at) fault is)
cut_alike at (Some before) fault is = cut_behind at (old_stack_in_file before.head before.body before.records) fault is

-- a file of which a gate or a record is cut
pub fault_cut : (file : Which) (at : ℕ) (before : Option IntactPart) (fault : ReplayFault) → IsReplayFault (old_fault_of_cut at before) fault
    → IsOldFault (old_in_file file (old_fault_of_cut at before)) (old_fault_in file fault)
fault_cut file at before (replays.At place) is = ap (old_in_file file) (cut_alike at before (IllFormed place) is)
fault_cut file at before (replays.Old command refusal) is = ap (old_in_file file) (cut_alike at before (Refused command refusal) is)
fault_cut file at before replays.Memory is = tt

-- ---- the files

pub on_ok_of : {T E P : Type 0} (r : Result T E) → P → OnOk r P
on_ok_of (Ok x) p = p
on_ok_of (Err e) p = tt

pub stays_old : (files : Files) (found : Found) → old_reading files ≡ Ok found → found.head.generation ≢ last_generation → StaysOld files
stays_old files found is lesser image alike = old_stands_alike files image found is lesser (alike is_old)

behind_version : (read : Bool) (file : Which) (body : Result Found Fault) (found : Found) → (if not read then fault_at file 6 else body) ≡ Ok found → body ≡ Ok found
behind_version true file body found is = is
behind_version false file body found is = absurd (cc is)

-- what is read of version 1 alone is read whichever versions are
read_as_any : (files : Files) (found : Found) → reading is_old files ≡ Ok found → reading is_any files ≡ Ok found
read_as_any files found is = by (choice_of files.a files.b) is
  where
    by : (choice : Choice) → reading_by is_old files choice ≡ Ok found → reading_by is_any files choice ≡ Ok found
    by (Err fault) is = absurd (cc is)
    by (Ok choice) is = behind_version (is_old choice.1.head.version) choice.0 (body_reading choice.0 (file_of files choice.0) choice.1) found is

-- the tail is that of the file that was found
pub tail_found : (tail : Kept) (old files : Files) (found : Found) → files ≡ old → Keeps tail (reading is_any files) → old_reading old ≡ Ok found
    → (tail.file ≡ found.file) × (tail.head ≡ found.head)
tail_found tail old files found same keeps is =
    let there : old_reading files ≡ Ok found = ap old_reading same ∙ is in
    let kept : Keeps tail (Ok found) = subst (λ (r : Result Found Fault). Keeps tail r) (read_as_any files found (old_is_reading files found there)) keeps in
    (kept.file, kept.head)

-- and that of the other one follows it
pub has_migrated : (tail made : Kept) (head : Head) (gate : ℕ) (found : Found) → made ≡ tail_of_other tail.file head gate → head ≡ migrated_head tail.head
    → (tail.file ≡ found.file) × (tail.head ≡ found.head) → HasMigrated found made
has_migrated tail made head gate found turned next at = record {
  file = ap (λ (t : Kept). t.file) turned ∙ ap other at.0;
  head = ap (λ (t : Kept). t.head) turned ∙ next ∙ ap migrated_head at.1;
  records = ap (λ (t : Kept). t.records) turned;
}

pub other_other : (file : Which) → other (other file) ≡ file
other_other A = refl
other_other B = refl

-- the file that was current stays as it is
pub spared_other : (tail made : Kept) (head : Head) (gate : ℕ) (old mid new : Files) → made ≡ tail_of_other tail.file head gate → mid ≡ old → IsSpared tail.file mid new
    → file_of new (other made.file) ≡ file_of old (other made.file)
spared_other tail made head gate old mid new turned same spared =
    let at : other made.file ≡ tail.file = ap (λ (t : Kept). other t.file) turned ∙ other_other tail.file in
    subst (λ (w : Which). file_of new w ≡ file_of old w) (sym at) (spared ∙ ap (λ (f : Files). file_of f tail.file) same)

-- what a crash leaves while the other file takes the place of the current one
pub old_or_migrated : (file : Which) (whole : Whole) (old files image : Files) (made : Stack × ℕ) → files ≡ old → StaysOld old → old_stands old ≡ Ok made → whole.head.version ≡ 2
    → stack_in_file whole.head whole.body [] ≡ Ok made.0 → IsOldOrNew file whole files image → IsOldOrMigrated old image
old_or_migrated file whole old files image made same stays is two leads = ⊎_elim
    (λ alike. let as_old = subst (λ (f : Files). ReadsAlike f image) same alike in inl (as_old, stays image as_old))
    (λ new. inr (made, is, after_turn file whole image made.0 two leads new))

-- and from the opening of the files on
module _ {S : Type 0} (means : Meanings S) where
  pub any_moment : (file : Which) (whole : Whole) (made : Stack × ℕ) (old mid new : S) → OnlyLooks means old mid → StaysOld (means.seen old) → old_stands (means.seen old) ≡ Ok made
      → whole.head.version ≡ 2 → stack_in_file whole.head whole.body [] ≡ Ok made.0 → LeavesOnly means mid new (λ r. IsOldOrNew file whole (means.seen mid) r.files)
      → LeavesOnly means old new (λ r. means.may_leave old r ⊎ IsOldOrMigrated (means.seen old) r.files)
  any_moment file whole made old mid new looks stays is two leads turns =
      leaves_then means old mid new _
      (leaves_weaker means old mid (means.may_leave old) (λ r. means.may_leave old r ⊎ IsOldOrMigrated (means.seen old) r.files) (λ r left. inl left) looks.moments)
      (leaves_weaker means mid new (λ r. IsOldOrNew file whole (means.seen mid) r.files) (λ r. means.may_leave old r ⊎ IsOldOrMigrated (means.seen old) r.files)
      (λ r either. inr (old_or_migrated file whole (means.seen old) (means.seen mid) r.files made looks.nothing.files stays is two leads either)) turns)

-- ---- the counts

-- what ends well had no failing call
pub none_failed : {T E : Type 0} (x : T) (e : E) (old new : Counts) → StopsAtFault (◌≡◌ {A = Result T E} (Ok x) (Err e)) ⊥ ⊥ old new → NoFault old new
none_failed {T} {E} x e old new = went_on (◌≡◌ {A = Result T E} (Ok x) (Err e)) ⊥ ⊥ old new (λ is. absurd (cc is)) (λ no. no) (λ no. no)
