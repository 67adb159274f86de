-- What two files of one older version stand for where one of a later version is to take the place
-- of the current one: by one test more, which is behind that of the version and before that of the
-- body.
use Rattle.std.specs.Prelude.{ℕ, Bool, true, false, List, ◌==◌, not, if◌then◌else◌}
use Rattle.std.specs.Prelude.{Option, Some, None, Result}
use Rattle.ox_outside.specs.Files.{Files}
use Rattle.ox_outside.specs.declared.site.Which.{Which}
use Rattle.ox_gated.specs.Layout.{version_at, generation_at}
use Rattle.ox_gated.specs.OtherFile.{last_generation}
use Rattle.ox_gated.specs.Pick.{choice_of}
use Rattle.ox_gated.specs.Reading.{Found, Fault, fault_at, body_reading, current_reading, of_picked}
use Rattle.ox_gated.specs.Reading.{is_led, is_old}
use Rattle.ox_gated.specs.declared.head.Opening.{Opening}

-- the version that a store grows from
abbrev pub is_growing : ℕ → Bool
is_growing version = version == 2

-- The current file: its version is one of those that are read, and a generation can follow its own.
abbrev pub followed_where : (ℕ → Bool) → Which → List ℕ → Opening → Result Found Fault
followed_where reads file bytes opening =
    if not (reads opening.head.version) then fault_at file version_at else
    if opening.head.generation == last_generation then fault_at file generation_at else
    body_reading file bytes opening

-- the same where version 1 is read
abbrev pub followed_reading : Which → List ℕ → Opening → Result Found Fault
followed_reading = followed_where is_old

-- what the files stand for, where version 1 is read and another file is to follow
abbrev pub old_reading : Files → Result Found Fault
old_reading files = of_picked followed_reading files (choice_of files.a files.b)

-- what the files stand for, where version 2 is read and another file is to follow
abbrev pub growing_reading : Files → Result Found Fault
growing_reading files =
    of_picked (followed_where is_growing) files (choice_of files.a files.b)

-- ---- by the one version that is read and to be followed, or none where what is read is led

abbrev pub is_followed : Option ℕ → Bool
is_followed None = false
is_followed (Some version) = true

abbrev pub is_read : Option ℕ → ℕ → Bool
is_read None = is_led
is_read (Some only) = λ version. version == only

abbrev pub current_as : Option ℕ → Which → List ℕ → Opening → Result Found Fault
current_as None = current_reading is_led
current_as (Some only) = followed_where (λ version. version == only)

abbrev pub reading_as : Option ℕ → Files → Result Found Fault
reading_as only files = of_picked (current_as only) files (choice_of files.a files.b)
