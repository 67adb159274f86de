-- What lines make of a state that turns by lines, and the lines that answer them; and so with
-- commands in place of lines. The state is a machine, or a machine's stack.
use Rattle.std.specs.Prelude.{ℕ, List, [], ◌∷◌, Result, Ok, Err}
use Rattle.ox_feed.specs.Feed.{FeedLine}
use Rattle.ox_feed.specs.declared.command.Command.{Command}
use Rattle.ox_model.specs.Index.{Index}
use Rattle.ox_model.specs.Machine as machines
use Rattle.ox_model.specs.Machine.{Machine}
use Rattle.ox_model.specs.Stack.{Stack, stack_after, turn_on}
use Rattle.ox_rules.specs.Text.{ok_text, refusal_line}
use Rattle.ox_rules.specs.declared.refusal.Refusal.{Refusal}

-- a refusal changes nothing
abbrev pub after_turn : {X : Type 0} → X → Result X Refusal → X
after_turn state (Ok new) = new
after_turn state (Err refusal) = state

-- the line of an accepted command, by the index then
abbrev pub ok_line : Index → List ℕ
ok_line index = ok_text index.hashes

-- the line that answers, by the index of the state after it
abbrev pub reply_by : {X : Type 0} → (X → Index) → Result X Refusal → List ℕ
reply_by index (Ok new) = ok_line (index new)
reply_by index (Err refusal) = refusal_line refusal

-- the state after lines, or after commands
unfoldable pub after_by : {X C : Type 0} → (X → C → Result X Refusal) → X → List C → X
after_by turn state [] = state
after_by turn state (line ∷ lines) = after_by turn (after_turn state (turn state line)) lines

-- the answers to these, in order, each by the state as those before it leave it
unfoldable pub replies_by : {X C : Type 0} → (X → C → Result X Refusal) → (X → Index) → X
    → List C → List (List ℕ)
replies_by turn index state [] = []
replies_by turn index state (line ∷ lines) =
    reply_by index (turn state line)
    ∷ replies_by turn index (after_turn state (turn state line)) lines

-- of a machine, each by fresh indexing of its blocks then
abbrev pub after : Machine → List FeedLine → Machine
after = after_by machines.turn

abbrev pub replies : Machine → List FeedLine → List (List ℕ)
replies = replies_by machines.turn machines.chain_index

abbrev pub after_commands : Machine → List Command → Machine
after_commands = after_by machines.turn_by_command

-- of its stack
abbrev pub index_on : Stack → Index
index_on stack = stack.index

abbrev pub after_on : Stack → List FeedLine → Stack
after_on = after_by turn_on

abbrev pub after_commands_on : Stack → List Command → Stack
after_commands_on = after_by stack_after

abbrev pub replies_on : Stack → List FeedLine → List (List ℕ)
replies_on = replies_by turn_on index_on
