-- What two files of version 1 stand for, where a file of a later version is to take the place of
-- the current one: the stack that their commands lead to, and how many they are; or the file and
-- the place of the first test that fails; or a command that the present rules refuse. The body is
-- empty, and a record's payload is that of a command.
use Rattle.std.specs.Prelude.{ℕ, ◌+◌, ◌==◌, List, [], ◌∷◌, length, Option, Some, None}
use Rattle.std.specs.Prelude.{Result, Ok, Err, if◌then◌else◌}
use Rattle.ox_bytes.specs.Reading.{◌>>=◌}
use Rattle.ox_outside.specs.Files.{Files}
use Rattle.ox_outside.specs.declared.site.Which.{Which}
use Rattle.ox_gated.specs.Layout.{body_at}
use Rattle.ox_gated.specs.OldReading.{old_reading}
use Rattle.ox_gated.specs.Reading.{Found, Fault, IntactPart}
use Rattle.ox_gated.specs.declared.head.Head.{Head}
use Rattle.ox_gated.specs.declared.records.Record.{Record}
use Rattle.ox_sat.specs.Profiles.{name_at, profile_named}
use Rattle.ox_feed.specs.declared.command.Command.{Command}
use Rattle.ox_feed.specs.declared.command.Command.TheVariants.{Connect, Disconnect}
use Rattle.ox_rules.specs.declared.refusal.Refusal.{Refusal}
use Rattle.ox_model.specs.Machine.{empty_machine, stack_of}
use Rattle.ox_model.specs.Stack.{Stack, stack_after}
use Rattle.ox_files.specs.Stands.{Misfit}

-- ---- commands

-- the stack of a file with this head and no record
abbrev pub empty_stack_at : Head → Stack
empty_stack_at head = stack_of (empty_machine (profile_named (name_at head.profile)) head.depth)

-- nothing may stand behind the byte of a disconnect
abbrev pub disconnect_before : List ℕ → Option Command
disconnect_before [] = Some Disconnect
disconnect_before (b ∷ rest) = None

-- the command of a payload: 00 is a disconnect, and 01 connects whatever stands behind it
abbrev pub command_in : List ℕ → Option Command
command_in [] = None
command_in (kind ∷ rest) =
    if kind == 1 then Some (Connect rest)
    else if kind == 0 then disconnect_before rest
    else None

-- ---- what is wrong

-- Why there is no stack: the place of the first test that fails, where the form is broken; or a
-- command that the present rules refuse, by its number from 0, and why they do.
pub data OldFault (Place : Type 0) : Type 0 where
  IllFormed : (place : Place) → OldFault Place
  Refused : (command : ℕ) → (refusal : Refusal) → OldFault Place

abbrev pub or_refused : ℕ → Result Stack Refusal → Result Stack (OldFault ℕ)
or_refused number (Ok stack) = Ok stack
or_refused number (Err refusal) = Err (Refused number refusal)

-- ---- files

-- the stack after the command of this number, if it is one, whose record has its gate at this place
abbrev pub old_stack_by : ℕ → ℕ → Stack → Option Command → Result Stack (OldFault ℕ)
old_stack_by number place stack None = Err (IllFormed place)
old_stack_by number place stack (Some command) = or_refused number (stack_after stack command)

-- the stack after the record of this number
abbrev pub old_stack_after : ℕ → Stack → Record → Result Stack (OldFault ℕ)
old_stack_after number stack one = old_stack_by number one.place stack (command_in one.payload)

-- The stack after records, of which the first has this number; the first of them that fails
-- decides.
unfoldable pub old_stack_after_records : ℕ → Stack → List Record → Result Stack (OldFault ℕ)
old_stack_after_records number stack [] = Ok stack
old_stack_after_records number stack (one ∷ records) = do
  next ← old_stack_after number stack one
  old_stack_after_records (number + 1) next records

-- the stack of a head, a body and records; a body that isn't empty is at fault
abbrev pub old_stack_in_file : Head → List ℕ → List Record → Result Stack (OldFault ℕ)
old_stack_in_file head [] records = old_stack_after_records 0 (empty_stack_at head) records
old_stack_in_file head (b ∷ body) records = Err (IllFormed body_at)

-- where a gate or a record is cut: the body and the records before it are tested first
abbrev pub old_fault_of_cut : {X : Type 0} → ℕ → Option IntactPart → Result X (OldFault ℕ)
old_fault_of_cut at None = Err (IllFormed at)
old_fault_of_cut at (Some before) = do
  stack ← old_stack_in_file before.head before.body before.records
  Err (IllFormed at)

-- a place is one in this file
abbrev pub old_in_file : {X : Type 0} → Which → Result X (OldFault ℕ) → Result X (OldFault Misfit)
old_in_file file (Ok x) = Ok x
old_in_file file (Err (IllFormed at)) = Err (IllFormed (record { file = file; at = at }))
old_in_file file (Err (Refused command refusal)) = Err (Refused command refusal)

-- the stack, and with it the number of the commands that lead to it
abbrev pub with_count : {F : Type 0} → ℕ → Result Stack F → Result (Stack × ℕ) F
with_count commands (Ok stack) = Ok (stack, commands)
with_count commands (Err fault) = Err fault

abbrev pub old_stack_in : Result Found Fault → Result (Stack × ℕ) (OldFault Misfit)
old_stack_in (Ok found) = old_in_file found.file
    (with_count (length found.records) (old_stack_in_file found.head found.body found.records))
old_stack_in (Err fault) = old_in_file fault.file (old_fault_of_cut fault.at fault.before)

-- what the files stand for
abbrev pub old_stands : Files → Result (Stack × ℕ) (OldFault Misfit)
old_stands files = old_stack_in (old_reading files)
