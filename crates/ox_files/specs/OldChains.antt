-- The chain of commands that two files of version 1 have.
use Rattle.std.specs.Prelude.{◌≡◌, ℕ, List, length, map, Option, Some, Ok}
use Rattle.ox_outside.specs.Files.{Files}
use Rattle.ox_gated.specs.OldReading.{old_reading}
use Rattle.ox_gated.specs.Reading.{Found}
use Rattle.ox_gated.specs.declared.head.Head.{Head}
use Rattle.ox_gated.specs.declared.records.Record.{Record}
use Rattle.ox_sat.specs.Profiles.{name_at, profile_named}
use Rattle.ox_feed.specs.declared.command.Command.{Command}
use Rattle.ox_model.specs.Machine.{Machine, empty_machine, stack_of}
use Rattle.ox_model.specs.Replies.{after_commands}
use Rattle.ox_model.specs.Stack.{Stack}
use Rattle.ox_files.specs.OldStands.{command_in}

-- the command of a record, if it is one
abbrev pub command_at : Record → Option Command
command_at one = command_in one.payload

-- the machine of a file with this head and no record
abbrev pub first_machine : Head → Machine
first_machine head = empty_machine (profile_named (name_at head.profile)) head.depth

-- The records of the files are those of so many commands, one each, and these lead from the empty
-- machine of the head's profile and depth to the machine of this stack.
pub record HaveChain (files : Files) (stack : Stack) (many : ℕ) : Type 0 where
  pub found : Found
  pub reads : old_reading files ≡ Ok found
  pub commands : List Command
  pub are_those : map command_at found.records ≡ map Some commands
  pub count : length commands ≡ many
  pub stack_is : stack ≡ stack_of (after_commands (first_machine found.head) commands)
