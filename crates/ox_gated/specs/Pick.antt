-- Which of two files is current, or the first of the tests on their gates and heads that fails.
use Rattle.std.specs.Prelude.{◌≡◌, ◌⊎◌, ℕ, ◌<◌, ◌≤◌, Bool, true, false, List, length, nat_lt}
use Rattle.std.specs.Prelude.{◌==◌, if◌then◌else◌, Option, Some, None, Result, Ok, Err}
use Rattle.ox_outside.specs.Files.{Files, file_of, other}
use Rattle.ox_outside.specs.declared.site.Which.{Which}
use Rattle.ox_outside.specs.declared.site.Which.TheVariants.{A, B}
use Rattle.ox_gated.specs.Layout.{is_closed, head_of, magic_at, generation_at}
use Rattle.ox_gated.specs.declared.head.Opening.{Opening}

-- the current file and its head, or the file and the place of the first test that fails
abbrev pub Choice : Type 0
Choice = Result (Which × Opening) (Which × ℕ)

-- one file is open
abbrev pub lone_choice : Which → Option Opening → Choice
lone_choice file None = Err (file, magic_at)
lone_choice file (Some opening) = Ok (file, opening)

-- both are: the greater generation is current
abbrev pub greater_of : Option Opening → Option Opening → Choice
greater_of None b = Err (A, magic_at)
greater_of (Some a) None = Err (B, magic_at)
greater_of (Some a) (Some b) =
    if a.head.generation == b.head.generation then Err (B, generation_at) else
    if nat_lt a.head.generation b.head.generation then Ok (B, b) else
    Ok (A, a)

-- by which are closed
abbrev pub choice_by : Bool → Bool → List ℕ → List ℕ → Choice
choice_by true true a b = Err (A, 0)
choice_by true false a b = if length a == 0 then Err (A, 0) else lone_choice B (head_of b)
choice_by false true a b = if length b == 0 then Err (B, 0) else lone_choice A (head_of a)
choice_by false false a b = greater_of (head_of a) (head_of b)

abbrev pub choice_of : List ℕ → List ℕ → Choice
choice_of a b = choice_by (is_closed a) (is_closed b) a b

-- of what there is of each file, that of this one
abbrev pub of_file : {A : Type 0} → Which → A → A → A
of_file A a b = a
of_file B a b = b

-- ---- why a file is current

-- the other file is closed, and there
abbrev pub Shut : List ℕ → Type 0
Shut bytes = (is_closed bytes ≡ true) × (1 ≤ length bytes)

-- it is open, with a lesser generation
abbrev pub Lesser : Opening → List ℕ → Type 0
Lesser opening bytes =
    (is_closed bytes ≡ false)
    × ((o : Opening) × (head_of bytes ≡ Some o)
    × (o.head.generation < opening.head.generation))

abbrev pub Beside : Opening → List ℕ → Type 0
Beside opening bytes = Shut bytes ⊎ Lesser opening bytes

-- the current file is open and has this head, and the other one is beside it
pub record Picked (files : Files) (file : Which) (opening : Opening) : Type 0 where
  pub opened : is_closed (file_of files file) ≡ false
  pub head : head_of (file_of files file) ≡ Some opening
  pub beside : Beside opening (file_of files (other file))
