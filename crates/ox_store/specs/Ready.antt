-- A command that is prepared: all its memory is taken, and its record isn't written yet.
use Rattle.std.specs.Prelude.{◌≡◌, ◌⊎◌, ℕ, ◌≤◌, List, [], ◌∷◌, length, Option, Some, None, Ok}
use Rattle.ox_outside.specs.Files.{Files}
use Rattle.ox_feed.specs.declared.command.Command.{Command}
use Rattle.ox_gated.specs.Tail.{Kept}
use Rattle.ox_model.specs.Change.{IsChange, redone}
use Rattle.ox_model.specs.Ends.{BeginsIn}
use Rattle.ox_model.specs.Index.{Index}
use Rattle.ox_model.specs.Stack.{Stack, stack_after}
use Rattle.ox_files.specs.Stands.{stands}
use Rattle.ox_model.specs.declared.change.Change.{Change}
use Rattle.ox_store.specs.Store.{StoreContents}
use Rattle.ox_store.specs.declared.ready.Moving.{Moving}
use Rattle.ox_store.specs.declared.ready.Moving.TheVariants.{On, Back}
use Rattle.ox_store.specs.Writing.{IsDue, LeadsTo}
use Rattle.ox_store.specs.declared.writing.Writing.{Writing}

-- the index before the command, the stack after it, the tail before it, how many commands were
-- accepted before it, and what is written of it
pub record PreparedCommand : Type 0 where
  pub left : Index
  pub stack : Stack
  pub tail : Kept
  pub commands : ℕ
  pub writing : Writing

-- what is written is due, and leads from this stack to the one after the command
pub record Leads (before : Stack) (ready : PreparedCommand) : Type 0 where
  pub due : IsDue ready.tail ready.writing
  pub leads : LeadsTo before ready.stack ready.writing

-- this command of this store is prepared
pub record Prepares (store : StoreContents) (command : Command) (ready : PreparedCommand)
    : Type 0 where
  pub after : stack_after store.stack command ≡ Ok ready.stack
  pub leads : Leads store.stack ready
  pub left : ready.left ≡ store.stack.index
  pub tail : ready.tail ≡ store.tail
  pub commands : ready.commands ≡ store.commands

-- the files stand for the stack before a command, or for the one after it
abbrev pub StandsForEither : Stack → Stack → Files → Type 0
StandsForEither before after files = (stands files ≡ Ok before) ⊎ (stands files ≡ Ok after)

-- ---- what changes

-- The change leads from the index before a command to the one after it; where the command took a
-- block back it leads the other way.
abbrev pub Moves : Index → Index → Moving → Type 0
Moves before after (On change) = IsChange before after change.now
Moves before after (Back change) = IsChange after before change.now

-- the index before a command, by the change that it took back; where it took none back, that index
-- is the first of the older ones
abbrev pub left_by : Stack → List Index → Option Change → Index
left_by stack older (Some change) = redone stack.index change
left_by stack (left ∷ older) None = left
left_by stack [] None = stack.index

-- The change of the command is there: the one that was taken back, which led to a sound index, or
-- the newest that is kept.
abbrev pub HasChange : Stack → Option Change → Type 0
HasChange stack (Some change) = BeginsIn stack.profile stack.index change
HasChange stack None = 1 ≤ length stack.older
