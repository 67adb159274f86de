-- Files that stand for a stack at version 2 or 3 stand for none at version 1: the current one's
-- version is at fault.
use Rattle.std.proofs.Common.{◌≡◌, ◌∙◌, ℕ, Bool, true, false, List, ap, refl, sym}
use Rattle.std.specs.Prelude.{Result, Ok, Err, ◌==◌, not, if◌then◌else◌}
use Rattle.std.proofs.lemmas.Bool.{eqb-true}
use Rattle.ox_outside.specs.Files.{Files, file_of}
use Rattle.ox_outside.specs.declared.site.Which.{Which}
use Rattle.ox_gated.specs.Layout.{version_at}
use Rattle.ox_gated.specs.OldReading.{followed_reading}
use Rattle.ox_gated.specs.Pick.{Choice, choice_of}
use Rattle.ox_gated.specs.Reading.{Fault, Found, body_reading, current_reading, fault_at, is_old, is_present, of_picked}
use Rattle.ox_gated.specs.declared.head.Opening.{Opening}
use Rattle.ox_model.specs.Stack.{Stack}
use Rattle.ox_files.specs.OldStands.{IllFormed, old_stack_in, old_stands}
use Rattle.ox_files.specs.Stands.{Misfit, stack_in, stands}

-- no stack stands in a file that is at fault before its body
no_stack : (file : Which) (at : ℕ) (stack : Stack) → stack_in (fault_at file at) ≡ Ok stack → ⊥
no_stack file at stack is = cc is

abbrev misfit_at : Which → ℕ → Misfit
misfit_at file at = record { file = file; at = at }

abbrev IsIllFormed : Result Found Fault → Type 0
IsIllFormed found = (misfit : Misfit) × (old_stack_in found ≡ Err (IllFormed misfit))

other_version : (present one : Bool) (v : ℕ) → is_present v ≡ present → (v == 1) ≡ one → present ≡ true → one ≡ false
other_version present true v is is' e = absurd (cc (sym e ∙ sym is ∙ ap is_present (eqb-true v 1 is')))
other_version present false v is is' e = refl

at_version : (present one : Bool) (file : Which) (bytes : List ℕ) (opening : Opening) (stack : Stack) (rest : Result Found Fault) → (present ≡ true → one ≡ false)
    → stack_in (if not present then fault_at file version_at else body_reading file bytes opening) ≡ Ok stack
    → IsIllFormed (if not one then fault_at file version_at else rest)
at_version false one file bytes opening stack rest apart is = absurd (no_stack file version_at stack is)
at_version true false file bytes opening stack rest apart is = (misfit_at file version_at, refl)
at_version true true file bytes opening stack rest apart is = absurd (cc (apart refl))

by_choice : (files : Files) (choice : Choice) (stack : Stack) → stack_in (of_picked (current_reading is_present) files choice) ≡ Ok stack → IsIllFormed (of_picked followed_reading files choice)
by_choice files (Err fault) stack is = absurd (no_stack fault.0 fault.1 stack is)
by_choice files (Ok choice) stack is =
    let v = choice.1.head.version in
    at_version (is_present v) (is_old v) choice.0 (file_of files choice.0) choice.1 stack _ (other_version (is_present v) (is_old v) v refl refl) is

pub one_version : (files : Files) (stack : Stack) → stands files ≡ Ok stack → (misfit : Misfit) × (old_stands files ≡ Err (IllFormed misfit))
one_version files stack = by_choice files (choice_of files.a files.b) stack
