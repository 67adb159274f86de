-- What a machine's answers depend on, which turns by commands: the index of its chain, and those of
-- the shorter chains that it can go back to.
use Rattle.std.specs.Prelude.{ℕ, List, [], ◌∷◌, take, Option, Some, None, Result, Ok, Err}
use Rattle.ox_feed.specs.Command.{command_of}
use Rattle.ox_feed.specs.Feed.{FeedLine, text, too_long}
use Rattle.ox_feed.specs.declared.command.Command.{Command}
use Rattle.ox_feed.specs.declared.command.Command.TheVariants.{Connect, Disconnect}
use Rattle.ox_sat.specs.declared.profiles.Profile.{Profile}
use Rattle.ox_rules.specs.declared.refusal.Refusal.{Refusal}
use Rattle.ox_rules.specs.declared.refusal.Refusal.TheVariants.{TooLong, Syntax, Depth}
use Rattle.ox_model.specs.Index.{Index}
use Rattle.ox_model.specs.Step.{step}

pub record Stack : Type 0 where
  -- the profile by which the chain counts
  pub profile : Profile
  -- how many blocks may be kept at most
  pub depth : ℕ
  -- the index of the chain
  pub index : Index
  -- those of the chain without its last block, its last two, and so on: one for each kept block
  pub older : List Index

-- with a new index in front, where there is one, of the older ones at most depth many are kept
abbrev pub with_index : Stack → Result Index Refusal → Result Stack Refusal
with_index stack (Ok index) = Ok (record stack {
  index = index;
  older = take stack.depth (stack.index ∷ stack.older);
})
with_index stack (Err refusal) = Err refusal

-- gone back to the first of the older ones; where there is none, no block is kept
abbrev pub back_to : Stack → List Index → Result Stack Refusal
back_to stack [] = Err Depth
back_to stack (index ∷ older) = Ok (record stack { index = index; older = older })

-- the stack after a command, or why it is refused
abbrev pub stack_after : Stack → Command → Result Stack Refusal
stack_after stack (Connect bytes) = with_index stack (step stack.profile stack.index bytes)
stack_after stack Disconnect = back_to stack stack.older

-- a line that is no command is refused
abbrev pub stack_after_any : Stack → Option Command → Result Stack Refusal
stack_after_any stack (Some command) = stack_after stack command
stack_after_any stack None = Err Syntax

-- the stack after a line, or why it is refused
abbrev pub turn_on : Stack → FeedLine → Result Stack Refusal
turn_on stack (text line) = stack_after_any stack (command_of line)
turn_on stack too_long = Err TooLong
