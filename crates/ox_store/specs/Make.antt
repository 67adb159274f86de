-- A store without a block, as it is made.
use Rattle.std.specs.Prelude.{ℕ, []}
use Rattle.ox_outside.specs.Files.{Files}
use Rattle.ox_gated.specs.declared.head.Head.{Head}
use Rattle.ox_sat.specs.Profiles.{profile_named}
use Rattle.ox_sat.specs.declared.profiles.ProfileName.{ProfileName}
use Rattle.ox_model.specs.Machine.{empty_machine, stack_of}
use Rattle.ox_model.specs.Stack.{Stack}

-- two empty files
abbrev pub no_files : Files
no_files = record { a = []; b = [] }

-- the stack of a store that was made: its chain counts by this profile and has no block
abbrev pub made_stack : ProfileName → ℕ → Stack
made_stack name depth = stack_of (empty_machine (profile_named name) depth)

-- the head of its file: version 2, generation 1
abbrev pub first_head : ProfileName → ℕ → Head
first_head name depth =
    record { version = 2; profile = (profile_named name).byte; depth = depth; generation = 1 }
