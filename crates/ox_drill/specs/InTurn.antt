-- Commands that are carried out one after the other over two files, and what a crash leaves at any
-- moment of it.
use Rattle.std.specs.Prelude.{◌≡◌, ◌⊎◌, ℕ, ◌+◌, ◌≤◌, List, [], ◌∷◌, length, take, Ok}
use Rattle.ox_outside.specs.Crash.{Remains}
use Rattle.ox_outside.specs.Files.{Files}
use Rattle.ox_outside.specs.Runs.{LeavesOnly}
use Rattle.ox_outside.specs.declared.site.Site.{Ghosts as Meanings}
use Rattle.ox_feed.specs.declared.command.Command.{Command}
use Rattle.ox_model.specs.Replies.{after_commands_on, after_turn}
use Rattle.ox_model.specs.Stack.{Stack, stack_after}
use Rattle.ox_files.specs.Stands.{stands}
use Rattle.ox_store.specs.Ready.{StandsForEither}

-- the stack after a command; a refused one changes nothing
abbrev pub after_command : Stack → Command → Stack
after_command stack command = after_turn stack (stack_after stack command)

-- From one site to the next a crash leaves files that stand for the stack before a command or for
-- the one after it; and from that site on it goes on so.
pub record Turn {S : Type 0} (means : Meanings S) (before after : Stack) (GoesOn : S → Type 0)
    (old : S) : Type 0 where
  pub next : S
  pub during : LeavesOnly means old next (λ r. StandsForEither before after r.files)
  pub then_ : GoesOn next

-- From a stack on commands are carried out in turn: between two of them there is a site. Nothing is
-- called behind the last, which may be in hand still where a run stops.
abbrev pub InTurn : {S : Type 0} → Meanings S → Stack → List Command → S → S → Type 0
InTurn means stack [] old new = new ≡ old
InTurn means stack (command ∷ commands) old new =
    Turn means stack (after_command stack command)
    (λ next. InTurn means (after_command stack command) commands next new) old

-- ---- two moments

-- The first of two crashes may come while some command is in hand, and the second then or later.
abbrev pub InOrder : {S : Type 0} (means : Meanings S) (stack : Stack) (commands : List Command)
    (old new : S) → InTurn means stack commands old new → Remains → Remains → Type 0
InOrder means stack [] old new turns first later = ⊥
InOrder means stack (command ∷ commands) old new turns first later =
    (means.left_since turns.next (means.clock old) first
    × means.left_since new (means.clock old) later)
    ⊎ InOrder means (after_command stack command) commands turns.next new turns.then_ first later

-- Both leave files that stand for the stack after some of the commands, the later one for at most
-- one command fewer.
pub record FallsByOne (stack : Stack) (commands : List Command) (first later : Files)
    : Type 0 where
  pub at_first : ℕ
  pub at_later : ℕ
  pub first_stands : stands first ≡ Ok (after_commands_on stack (take at_first commands))
  pub later_stands : stands later ≡ Ok (after_commands_on stack (take at_later commands))
  pub among : at_first ≤ length commands
  pub later_among : at_later ≤ length commands
  pub falls : at_first ≤ at_later + 1
