-- What files are read as where another one is to follow.
use Rattle.std.proofs.Common.{◌≡◌, ◌≢◌, ◌∙◌, ℕ, Bool, true, false, List, ◌==◌, ◌&&◌, ◌||◌, not, if◌then◌else◌, sym, ap}
use Rattle.std.specs.Prelude.{Result, Ok, Err, Option, Some, None, IsTrue}
use Rattle.std.proofs.lemmas.Bool.{eq-eqb}
use Rattle.ox_outside.specs.Files.{Files, file_of}
use Rattle.ox_outside.specs.declared.site.Which.{Which}
use Rattle.ox_gated.specs.OldReading.{followed_where, growing_reading, is_followed, is_growing, is_read, old_reading, current_as}
use Rattle.ox_gated.specs.OtherFile.{last_generation}
use Rattle.ox_gated.specs.Pick.{Choice, choice_of}
use Rattle.ox_gated.specs.Reading.{Found, Fault, fault_at, body_reading, current_reading, is_old, is_present, of_picked, reading_by, reading}
use Rattle.ox_gated.specs.declared.head.Opening.{Opening}

-- behind both tests on the head
pub as_body : (only : Option ℕ) (file : Which) (bytes : List ℕ) (opening : Opening) → is_read only opening.head.version ≡ true → (is_followed only && opening.head.generation == last_generation) ≡ false
    → body_reading file bytes opening ≡ current_as only file bytes opening
as_body None file bytes opening read lesser = sym (ap (λ (b : Bool). if not b then fault_at file 6 else body_reading file bytes opening) read)
as_body (Some only) file bytes opening read lesser =
    sym (ap (λ (b : Bool). if not b then fault_at file 6 else if opening.head.generation == last_generation then fault_at file 10 else body_reading file bytes opening) read
    ∙ ap (λ (b : Bool). if b then fault_at file 10 else body_reading file bytes opening) lesser)

-- before the first
pub as_unread : (only : Option ℕ) (file : Which) (bytes : List ℕ) (opening : Opening) → is_read only opening.head.version ≡ false → current_as only file bytes opening ≡ fault_at file 6
as_unread None file bytes opening unread = ap (λ (b : Bool). if not b then fault_at file 6 else body_reading file bytes opening) unread
as_unread (Some only) file bytes opening unread = ap (λ (b : Bool). if not b then fault_at file 6 else if opening.head.generation == last_generation then fault_at file 10 else body_reading file bytes opening) unread

-- and before the second
pub as_unfollowed : (only : Option ℕ) (file : Which) (bytes : List ℕ) (opening : Opening) → is_read only opening.head.version ≡ true → (is_followed only && opening.head.generation == last_generation) ≡ true → current_as only file bytes opening ≡ fault_at file 10
as_unfollowed None file bytes opening read greatest = absurd (cc greatest)
as_unfollowed (Some only) file bytes opening read greatest =
    ap (λ (b : Bool). if not b then fault_at file 6 else if opening.head.generation == last_generation then fault_at file 10 else body_reading file bytes opening) read
    ∙ ap (λ (b : Bool). if b then fault_at file 10 else body_reading file bytes opening) greatest

-- behind it another generation can follow
pub is_lesser : (only : Option ℕ) (generation : ℕ) → (is_followed only && generation == last_generation) ≡ false → IsTrue (is_followed only) → generation ≢ last_generation
is_lesser None generation lesser followed same = cc followed
is_lesser (Some only) generation lesser followed same = let no = sym (eq-eqb generation last_generation same) ∙ lesser in cc no

-- ---- what one test more leaves of the reading

passed : (a b : Bool) (file : Which) (body : Result Found Fault) (found : Found) → (if not a then fault_at file 6 else if b then fault_at file 10 else body) ≡ Ok found → (if not a then fault_at file 6 else body) ≡ Ok found
passed true true file body found is = absurd (cc is)
passed true false file body found is = is
passed false b file body found is = absurd (cc is)

pub as_current : (only : Option ℕ) (file : Which) (bytes : List ℕ) (opening : Opening) (found : Found) → current_as only file bytes opening ≡ Ok found → current_reading (is_read only) file bytes opening ≡ Ok found
as_current None file bytes opening found is = is
as_current (Some only) file bytes opening found is = passed (opening.head.version == only) (opening.head.generation == last_generation) file (body_reading file bytes opening) found is

-- where a reading that asks for one that can follow finds something, the plain one finds the same
followed_is_reading : (reads : ℕ → Bool) (files : Files) (found : Found) (choice : Choice) → of_picked (followed_where reads) files choice ≡ Ok found → reading_by reads files choice ≡ Ok found
followed_is_reading reads files found (Err fault) is = absurd (cc is)
followed_is_reading reads files found (Ok choice) is =
    passed (reads choice.1.head.version) (choice.1.head.generation == last_generation) choice.0 (body_reading choice.0 (file_of files choice.0) choice.1) found is

pub old_is_reading : (files : Files) (found : Found) → old_reading files ≡ Ok found → reading is_old files ≡ Ok found
old_is_reading files found is = followed_is_reading is_old files found (choice_of files.a files.b) is

pub growing_is_reading : (files : Files) (found : Found) → growing_reading files ≡ Ok found → reading is_growing files ≡ Ok found
growing_is_reading files found is = followed_is_reading is_growing files found (choice_of files.a files.b) is

-- and so does the one that reads versions 2 and 3
widened : (a b : Bool) (file : Which) (body : Result Found Fault) (found : Found) → (if not a then fault_at file 6 else body) ≡ Ok found → (if not (a || b) then fault_at file 6 else body) ≡ Ok found
widened true b file body found is = is
widened false b file body found is = absurd (cc is)

pub growing_is_present : (files : Files) (found : Found) → growing_reading files ≡ Ok found → reading is_present files ≡ Ok found
growing_is_present files found is = by (choice_of files.a files.b) (growing_is_reading files found is)
  where
    by : (choice : Choice) → reading_by is_growing files choice ≡ Ok found → reading_by is_present files choice ≡ Ok found
    by (Err fault) is = is
    by (Ok choice) is = widened (is_growing choice.1.head.version) (choice.1.head.version == 3) choice.0 (body_reading choice.0 (file_of files choice.0) choice.1) found is
