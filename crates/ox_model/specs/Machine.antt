-- The machine that commands drive: a chain of blocks, of which the newest ones are kept, so that
-- they can be taken back. What is accepted is what its stack accepts; the machine says which blocks
-- are left, and how many of them are kept.
use Rattle.std.specs.Prelude.{ℕ, zero, suc, ◌-◌, List, [], ◌∷◌, ◌++◌, length, take, min}
use Rattle.std.specs.Prelude.{Option, Some, None, Result, Ok, Err}
use Rattle.ox_feed.specs.Command.{command_of}
use Rattle.ox_feed.specs.Feed.{FeedLine, text, too_long}
use Rattle.ox_feed.specs.declared.command.Command.{Command}
use Rattle.ox_feed.specs.declared.command.Command.TheVariants.{Connect, Disconnect}
use Rattle.ox_sat.specs.declared.profiles.Profile.{Profile}
use Rattle.ox_rules.specs.declared.refusal.Refusal.{Refusal}
use Rattle.ox_rules.specs.declared.refusal.Refusal.TheVariants.{TooLong, Syntax}
use Rattle.ox_model.specs.Chain.{index_of}
use Rattle.ox_model.specs.Index.{Index}
use Rattle.ox_model.specs.Stack.{Stack, stack_after}

pub record Machine : Type 0 where
  -- the profile by which its chain counts
  pub profile : Profile
  -- how many blocks may be kept at most
  pub depth : ℕ
  -- the bytes of its blocks, by height
  pub blocks : List (List ℕ)
  -- how many of the newest are kept
  pub kept : ℕ

-- before the first command
abbrev pub empty_machine : Profile → ℕ → Machine
empty_machine p depth = record { profile = p; depth = depth; blocks = []; kept = 0 }

-- a chain without its last block
abbrev pub all_but_last : List (List ℕ) → List (List ℕ)
all_but_last blocks = take (length blocks - 1) blocks

-- fresh indexing of a chain without its last block, its last two, and so on, so many times
abbrev pub older_of : Profile → ℕ → List (List ℕ) → List Index
older_of p zero blocks = []
older_of p (suc kept) blocks =
    index_of p (all_but_last blocks) ∷ older_of p kept (all_but_last blocks)

-- the index of its chain: fresh indexing of its blocks
abbrev pub chain_index : Machine → Index
chain_index machine = index_of machine.profile machine.blocks

-- its stack
abbrev pub stack_of : Machine → Stack
stack_of machine = record {
  profile = machine.profile;
  depth = machine.depth;
  index = chain_index machine;
  older = older_of machine.profile machine.kept machine.blocks;
}

-- the machine after a command that is accepted: a block is appended, and one more is kept, but no
-- more than depth; or the last block is gone
abbrev pub chosen : Machine → Option Command → Machine
chosen machine (Some (Connect bytes)) = record machine {
  blocks = machine.blocks ++ bytes ∷ [];
  kept = min (suc machine.kept) machine.depth;
}
chosen machine (Some Disconnect) = record machine {
  blocks = all_but_last machine.blocks;
  kept = machine.kept - 1;
}
chosen machine None = machine

-- the machine, where its stack has turned
abbrev pub chosen_if : Machine → Result Stack Refusal → Result Machine Refusal
chosen_if machine (Ok stack) = Ok machine
chosen_if machine (Err refusal) = Err refusal

-- the machine after a command, or why it is refused: what its stack says
abbrev pub turn_by_command : Machine → Command → Result Machine Refusal
turn_by_command machine command =
    chosen_if (chosen machine (Some command)) (stack_after (stack_of machine) command)

-- a line that is no command is refused
abbrev pub turn_by_any : Machine → Option Command → Result Machine Refusal
turn_by_any machine (Some command) = turn_by_command machine command
turn_by_any machine None = Err Syntax

-- the machine after a line, or why it is refused
abbrev pub turn : Machine → FeedLine → Result Machine Refusal
turn machine (text line) = turn_by_any machine (command_of line)
turn machine too_long = Err TooLong
