-- What two files stand for, at version 2 or 3: a stack, or the file and the place of the first test
-- that fails. The body is a checkpoint, an index and the changes of its newest blocks, and each
-- record holds what its command changed.
use Rattle.std.specs.Prelude.{ℕ, List, [], ◌∷◌, Option, Some, None, Result, Ok, Err}
use Rattle.ox_bytes.specs.Reading.{◌>>=◌}
use Rattle.ox_outside.specs.Files.{Files}
use Rattle.ox_outside.specs.declared.site.Which.{Which}
use Rattle.ox_gated.specs.Layout.{layout_of}
use Rattle.ox_gated.specs.Reading.{Found, Fault, IntactPart, is_present, reading}
use Rattle.ox_gated.specs.declared.head.Head.{Head}
use Rattle.ox_gated.specs.declared.records.Record.{Record}
use Rattle.ox_sat.specs.Profiles.{name_at, profile_named}
use Rattle.ox_model.specs.Stack.{Stack}
use Rattle.ox_files.specs.Body.{stack_in_body}
use Rattle.ox_files.specs.Payload.{payload_step}

abbrev pub or_place : {X : Type 0} → ℕ → Option X → Result X ℕ
or_place place None = Err place
or_place place (Some x) = Ok x

-- the stack after records, or the place of the gate of the first one that isn't accepted
unfoldable pub stack_after_records : Stack → List Record → Result Stack ℕ
stack_after_records stack [] = Ok stack
stack_after_records stack (one ∷ records) = do
  next ← or_place one.place (payload_step stack one.payload)
  stack_after_records next records

-- a body that stands for no stack is at fault where it begins
abbrev pub stack_at_body : Head → List ℕ → Result Stack ℕ
stack_at_body head body =
    or_place (layout_of head.version).body_at
    (stack_in_body (profile_named (name_at head.profile)) head.depth body)

-- the stack of a head, a body and records
abbrev pub stack_in_file : Head → List ℕ → List Record → Result Stack ℕ
stack_in_file head body records = do
  stack ← stack_at_body head body
  stack_after_records stack records

-- the file and the place of a test that failed
pub record Misfit : Type 0 where
  pub file : Which
  pub at : ℕ

abbrev pub in_file : {X : Type 0} → Which → Result X ℕ → Result X Misfit
in_file file (Ok x) = Ok x
in_file file (Err at) = Err (record { file = file; at = at })

-- where a gate or a record is cut: the body and the records before it are tested first
abbrev pub place_of_cut : ℕ → Option IntactPart → Result Stack ℕ
place_of_cut at None = Err at
place_of_cut at (Some before) =
    stack_in_file before.head before.body before.records >>= λ stack. Err at

abbrev pub stack_in : Result Found Fault → Result Stack Misfit
stack_in (Ok found) = in_file found.file (stack_in_file found.head found.body found.records)
stack_in (Err fault) = in_file fault.file (place_of_cut fault.at fault.before)

-- what the files stand for
abbrev pub stands : Files → Result Stack Misfit
stands files = stack_in (reading is_present files)
