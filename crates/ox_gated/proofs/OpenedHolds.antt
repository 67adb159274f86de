-- What is opened holds.
use Rattle.std.proofs.Common.{◌≡◌, ◌∙◌, ◌≤◌, ℕ, Bool, true, false, ◌==◌, ◌||◌, not, if◌then◌else◌, length, refl, sym, ap, subst}
use Rattle.std.specs.Prelude.{Result, Ok, Err, IfOk, IsTrue, Option, None}
use Rattle.ox_outside.specs.Files.{Files, file_of, other}
use Rattle.ox_outside.specs.Runs.{OnlyLooks}
use Rattle.ox_outside.specs.declared.site.Site.{Ghosts as Meanings}
use Rattle.ox_outside.specs.declared.site.Which.{Which}
use Rattle.ox_gated.specs.Layout.{is_closed, is_summed}
use Rattle.ox_gated.specs.Opened.{IsExamined, IsFault, IsFrontOf, IsUnpicked, found_of, tail_of}
use Rattle.ox_gated.specs.Pick.{choice_of}
use Rattle.ox_gated.specs.OldReading.{current_as, is_read, reading_as}
use Rattle.ox_gated.specs.Reading.{body_reading, current_reading, fault_at, is_any, is_present, of_picked, reading_by, reading}
use Rattle.ox_gated.specs.Tail.{Kept, Keeps, Holds, IsSettled}
use Rattle.ox_gated.specs.declared.fault.GateFault.{GateFault}
use Rattle.ox_gated.specs.declared.fault.GateFault.TheVariants as gates
use Rattle.ox_gated.specs.declared.head.Opening.{Opening}
use Rattle.ox_gated.specs.declared.open.Examined.{Examined}
use Rattle.ox_gated.specs.declared.open.Opened.{Opened}
use Rattle.ox_gated.proofs.ChoiceByFronts.{choice_some}
use Rattle.ox_gated.proofs.OldReading.{as_current}
use Rattle.ox_gated.proofs.Stands.{current_ok, judged_ok}

-- the fault of the choice is that of the files
pub unpicked_fault : (only : Option ℕ) (files : Files) (fault : GateFault) → IsUnpicked (choice_of files.a files.b) fault → IsFault (reading_as only files) fault
unpicked_fault only files (gates.Halt halt) is = tt
unpicked_fault only files (gates.NotStore file at before) is =
    subst (λ b. IsFault (reading_as only files) (gates.NotStore file at b)) (sym is.1) (ap (of_picked (current_as only) files) is.0)

or_not : (a b : Bool) → b ≡ false → (a || b) ≡ a
or_not true b other = refl
or_not false b other = other

module _ (files : Files) (file : Which) (opening : Opening) (picks : choice_of files.a files.b ≡ Ok (file, opening)) where
  pub as_is : (only : Option ℕ) → reading_as only files ≡ current_as only file (file_of files file) opening
  as_is only = ap (of_picked (current_as only) files) picks

  -- of versions 2 and 3 the one that isn't 3 is led
  pub as_led : is_summed opening.head.version ≡ false → reading is_present files ≡ reading_as None files
  as_led other =
      ap (reading_by is_present files) picks
      ∙ ap (λ (b : Bool). if not b then fault_at file 6 else body_reading file (file_of files file) opening) (or_not (opening.head.version == 2) (opening.head.version == 3) other)
      ∙ sym (as_is None)

  reading_is : reading is_any files ≡ body_reading file (file_of files file) opening
  reading_is = ap (reading_by is_any files) picks

  pub holds_opened : {S : Type 0} (means : Meanings S) (site : S) → means.seen site ≡ files → IsSettled means site
      → (o : Opened) (other_closed : Bool) → other_closed ≡ is_closed (file_of files (other file)) → o.tail ≡ tail_of o other_closed → body_reading file (file_of files file) opening ≡ Ok (found_of o) → Holds means o.tail site
  holds_opened means site same settled o other_closed closed tail is =
      let some = choice_some files.a files.b (file, opening) picks in
      let reads : reading is_any files ≡ Ok (found_of o) = reading_is ∙ is in
      let of = (current_ok file (file_of files file) opening (found_of o) is).same_file in
      let keeps : Keeps (tail_of o other_closed) (reading is_any files) = subst (Keeps (tail_of o other_closed)) (sym reads) (record { file = refl; head = refl; first = refl; records = refl; gate = refl }) in
      subst (λ t. Holds means t site) (sym tail) (
      record {
        settled = settled;
        some_a = subst (λ (f : Files). 1 ≤ length f.a) (sym same) some.0;
        some_b = subst (λ (f : Files). 1 ≤ length f.b) (sym same) some.1;
        keeps = subst (λ (f : Files). Keeps (tail_of o other_closed) (reading is_any f)) (sym same) keeps;
        closed = closed ∙ ap (λ (w : Which). is_closed (file_of files (other w))) (sym of) ∙ ap (λ (f : Files). is_closed (file_of f (other o.file))) (sym same);
      }
      )

  -- of a led store, or one of this version only
  body_is : (only : Option ℕ) (o : Opened) → current_as only file (file_of files file) opening ≡ Ok (found_of o) → body_reading file (file_of files file) opening ≡ Ok (found_of o)
  body_is only o is =
      let current : current_reading (is_read only) file (file_of files file) opening ≡ Ok (found_of o) = as_current only file (file_of files file) opening (found_of o) is in
      (judged_ok (is_read only opening.head.version) file (body_reading file (file_of files file) opening) (found_of o) current).1

  pub all_hold : {S : Type 0} (means : Meanings S) (site : S) → means.seen site ≡ files → IsSettled means site
      → (only : Option ℕ) (result : Result Opened GateFault) (other_closed : Bool) → other_closed ≡ is_closed (file_of files (other file)) → IfOk result (λ o. o.tail ≡ tail_of o other_closed) → IfOk result (λ o. current_as only file (file_of files file) opening ≡ Ok (found_of o))
      → IfOk result (λ o. Holds means o.tail site)
  all_hold means site same settled only (Ok o) other_closed closed tail is = holds_opened means site same settled o other_closed closed tail (body_is only o is)
  all_hold means site same settled only (Err e) other_closed closed tail is = is

-- calls that only look leave it so that each crash image is what is read
pub settled_on : {S : Type 0} (means : Meanings S) (old new : S) → OnlyLooks means old new → IsSettled means old → IsSettled means new
settled_on means old new looks settled r left = settled r (looks.nothing.crash r left) ∙ sym looks.nothing.files

-- what was found out of two files
pub all_examined : (files : Files) (result : Result Examined GateFault) → IfOk result (λ e. choice_of files.a files.b ≡ Ok (e.file, e.opening)) → IfOk result (λ e. IsFrontOf e.front (file_of files e.file))
    → IfOk result (λ e. e.other_closed ≡ is_closed (file_of files (other e.file))) → IfOk result (λ e. IsExamined e files)
all_examined files (Ok e) picks front closed = record { picks = picks; front = front; closed = closed }
all_examined files (Err e) picks front closed = tt

-- the head of what was opened, by its tail and its version
pub all_headed : (only : Option ℕ) (result : Result Opened GateFault) (other_closed : Bool) → IfOk result (λ o. o.tail ≡ tail_of o other_closed) → IfOk result (λ o. IsTrue (is_read only o.head.version)) → IfOk result (λ o. (o.tail.head ≡ o.head) × IsTrue (is_read only o.head.version))
all_headed only (Ok o) other_closed tail read = (ap (λ (t : Kept). t.head) tail, read)
all_headed only (Err e) other_closed tail read = tt
