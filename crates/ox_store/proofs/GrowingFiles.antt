-- Files of version 2 that grow into those of version 3.
use Rattle.std.proofs.Common.{◌≡◌, ◌∙◌, inl, inr, ℕ, Bool, true, false, refl, sym, ap, subst}
use Rattle.std.specs.Prelude.{◌⊎◌, ◌==◌, ◌||◌, not, nat_le, nat_lt, if◌then◌else◌, Option, Some, None, Result, Ok, Err, IsTrue}
use Rattle.ox_bytes.specs.Reading.{◌>>=◌}
use Rattle.ox_outside.specs.Files.{Files, file_of, other}
use Rattle.ox_outside.specs.Runs.{LeavesOnly, OnlyLooks}
use Rattle.ox_outside.specs.declared.site.Site.{Ghosts as Meanings}
use Rattle.ox_outside.specs.declared.site.Which.{Which}
use Rattle.ox_outside.proofs.Calls.{leaves_then, leaves_weaker}
use Rattle.ox_gated.specs.OldReading.{growing_reading, is_growing}
use Rattle.ox_gated.specs.Pick.{Choice, choice_of}
use Rattle.ox_gated.specs.Reading.{Fault, Found, IntactPart, body_reading, fault_at, is_any, reading, reading_by}
use Rattle.ox_gated.specs.Tail.{Keeps, Kept}
use Rattle.ox_gated.specs.declared.head.Head.{Head}
use Rattle.ox_gated.proofs.OldReading.{growing_is_present, growing_is_reading}
use Rattle.ox_model.specs.Stack.{Stack}
use Rattle.ox_files.specs.Stands.{in_file, place_of_cut, stack_in, stack_in_file, stands}
use Rattle.ox_store.specs.Grow.{HasGrown, IsShutBehind, StandsAsGrown, grown_head, growing}
use Rattle.ox_store.specs.Heads.{Names}
use Rattle.ox_store.specs.Turning.{Goes, IsOtherFile, IsTurned}
use Rattle.ox_store.specs.declared.turning.Turned.{Turned}
use Rattle.ox_store.specs.declared.turning.Turned.TheVariants.{To, GivenUp}
use Rattle.ox_store.proofs.HeadLemmas.{names_next}
use Rattle.ox_store.proofs.OldStores.{first_for}

-- ---- what they stand for

no_stack : (file : Which) (at : ℕ) (before : Result Stack ℕ) (stack : Stack) → in_file file (before >>= λ s. Err at) ≡ Ok stack → ⊥
no_stack file at (Ok s) stack is = absurd (cc is)
no_stack file at (Err p) stack is = absurd (cc is)

no_cut : (file : Which) (at : ℕ) (before : Option IntactPart) (stack : Stack) → in_file file (place_of_cut at before) ≡ Ok stack → ⊥
no_cut file at None stack is = absurd (cc is)
no_cut file at (Some part) stack is = no_stack file at (stack_in_file part.head part.body part.records) stack is

pub growing_stands : (files : Files) (stack : Stack) → growing files ≡ Ok stack → stands files ≡ Ok stack
growing_stands files stack is = by (growing_reading files) refl is
  where
    by : (r : Result Found Fault) → growing_reading files ≡ r → stack_in r ≡ Ok stack → stands files ≡ Ok stack
    by (Err fault) at is = absurd (no_cut fault.file fault.at fault.before stack is)
    by (Ok found) at is = ap stack_in (growing_is_present files found at) ∙ is

-- ---- the tail

behind_version : (read : Bool) (file : Which) (body : Result Found Fault) (found : Found) → (if not read then fault_at file 6 else body) ≡ Ok found → body ≡ Ok found
behind_version true file body found is = is
behind_version false file body found is = absurd (cc is)

any_reading : (files : Files) (found : Found) → growing_reading files ≡ Ok found → reading is_any files ≡ Ok found
any_reading files found is = by (choice_of files.a files.b) (growing_is_reading files found is)
  where
    by : (choice : Choice) → reading_by is_growing files choice ≡ Ok found → reading_by is_any files choice ≡ Ok found
    by (Err fault) is = absurd (cc is)
    by (Ok choice) is = behind_version (is_growing choice.1.head.version) choice.0 (body_reading choice.0 (file_of files choice.0) choice.1) found is

-- the tail is that of the file that was found
pub tail_growing : (tail : Kept) (old files : Files) (found : Found) → files ≡ old → Keeps tail (reading is_any files) → growing_reading old ≡ Ok found
    → (tail.file ≡ found.file) × (tail.head ≡ found.head)
tail_growing tail old files found same keeps is =
    let kept : Keeps tail (Ok found) = subst (λ (r : Result Found Fault). Keeps tail r) (any_reading files found (ap growing_reading same ∙ is)) keeps in
    (kept.file, kept.head)

-- and that of the other one follows it
pub has_grown : (tail made : Kept) (found : Found) → IsOtherFile tail (grown_head tail.head) made → (tail.file ≡ found.file) × (tail.head ≡ found.head) → HasGrown found made
has_grown tail made found is at = record {
  file = is.file ∙ ap other at.0;
  head = is.head ∙ ap grown_head at.1;
  records = is.records;
}

pub grown_tail : (old new : Kept) (head : Head) (turned : Turned) → IsTurned old head turned → IsShutBehind turned new → IsOtherFile old head new
grown_tail old new head (To tail) is shut = record {
  file = ap (λ (t : Kept). t.file) shut ∙ is.file;
  head = ap (λ (t : Kept). t.head) shut ∙ is.head;
  records = ap (λ (t : Kept). t.records) shut ∙ is.records;
}
grown_tail old new head (GivenUp tail) is shut = absurd shut

-- its head names the stack
pub names_grown : (head next : Head) (stack : Stack) → next ≡ grown_head head → Names head stack → Names next stack
names_grown head next stack is names =
    let three : Names (record head { version = 3 }) stack = record {
      version = refl;
      lawful = first_for (head.version == 1 || head.version == 2 || head.version == 3) (nat_lt head.profile 3) (nat_le 1 head.depth) (nat_le head.depth 1000) (not (head.generation == 0)) (3 == 1 || 3 == 2 || 3 == 3) names.lawful refl;
      profile = names.profile;
      depth = names.depth;
    } in
    subst (λ (h : Head). Names h stack) (sym is) (names_next (record head { version = 3 }) stack three)

-- ---- what a crash leaves, from the opening of the files on

module _ {S : Type 0} (means : Meanings S) where
  pub grown_moments : (stack : Stack) (failed : Type 0) (old mid new : S) → IsTrue (means.told old) → OnlyLooks means old mid → growing (means.seen old) ≡ Ok stack → Goes means stack failed mid new
      → LeavesOnly means old new (λ r. means.may_leave old r ⊎ StandsAsGrown (means.seen old) r.files)
  grown_moments stack failed old mid new told looks is goes =
      leaves_then means old mid new _
      (leaves_weaker means old mid (means.may_leave old) _ (λ r left. inl left) looks.moments)
      (leaves_weaker means mid new _ _ (λ r stays. inr (stack, is, stays))
      (goes.moments (looks.calls.as_told ∙ told) (ap stands looks.nothing.files ∙ growing_stands (means.seen old) stack is)))
