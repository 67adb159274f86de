-- What a server answers, by the log of its links alone: no slot, no session and no buffer is in it.
--
-- The moment of a message is the first event of the log after which the message stands whole in
-- what was heard of its link and all answers before its own are wholly shown. There it is answered
-- by the state, and a command changes the state there. A message whose link gives up at its next
-- event ran out of memory: it isn't answered, and changes nothing.
use Rattle.std.specs.Prelude.{ℕ, ◌+◌, ◌==◌, Bool, false, ◌||◌, if◌then◌else◌, List, [], ◌∷◌, ◌++◌}
use Rattle.std.specs.Prelude.{Option, Some, None, is_some, unwrap_or}
use Rattle.std.specs.List.{filter_map}
use Rattle.std.specs.Option.{option_map, option_and_then}
use Rattle.ox_outside.specs.Event.{Event, GaveUp, channel_of}
use Rattle.ox_http.specs.declared.Request.{Request}
use Rattle.ox_http.specs.Talk.{Message, asks, faults}
use Rattle.ox_links.specs.Link.{Written, Answer, asked_now, is_operators}

-- how a server reads a stream and answers, with states X and commands C
pub record Server (X C : Type 0) : Type 0 where
  -- the messages of a stream
  pub talk : List ℕ → List Message
  -- the reply to a fault of a stream, by its status, and to a link that gives up
  pub fault_reply : ℕ → Written
  pub unavailable : Written
  -- the command of a request, if it has one; whether it is an operator's
  pub command : Bool → Request → Option C
  -- the state after a command that is accepted
  pub turn : X → C → Option X
  -- the reply to a request, by the state before it; whether it is an operator's
  pub reply : X → Bool → Request → Written

-- the command of a message, and the reply to it by this state; of none, where a link gives up
abbrev pub message_command : {X C : Type 0} → Server X C → Bool → Option Message → Option C
message_command server operator (Some (asks request)) = server.command operator request
message_command server operator (Some (faults status)) = None
message_command server operator None = None

abbrev pub message_reply : {X C : Type 0} → Server X C → X → Bool → Option Message → Written
message_reply server state operator (Some (asks request)) = server.reply state operator request
message_reply server state operator (Some (faults status)) = server.fault_reply status
message_reply server state operator None = server.unavailable

-- the state after a command, if there is one and it is accepted
abbrev pub next_state : {X C : Type 0} → Server X C → X → Option C → Option X
next_state server state command = option_and_then (λ c. server.turn state c) command

-- the run of a log
pub record Serving (X C : Type 0) : Type 0 where
  -- the log so far
  pub past : List Event
  pub state : X
  -- the number of commands, and of those that were accepted
  pub commands : ℕ
  pub accepted : ℕ
  -- in the order of their moments
  pub answers : List (Answer C)

-- before the first event
abbrev pub start_at : {X C : Type 0} → X → Serving X C
start_at state = record { past = []; state = state; commands = 0; accepted = 0; answers = [] }

abbrev pub one_if : Bool → ℕ
one_if b = if b then 1 else 0

-- the answer to a link's message, or to a link that gives up
abbrev pub answer_of : {X C : Type 0} → Server X C → Serving X C → ℕ → Option Message → Answer C
answer_of server run channel message =
    let operator = is_operators channel run.past in
    let command = message_command server operator message in
    record {
      channel = channel;
      message = message;
      reply = message_reply server run.state operator message;
      command = command;
      is_accepted = is_some (next_state server run.state command);
      commands = run.commands + one_if (is_some command);
      accepted = run.accepted;
    }

-- the next event of this channel is that it gives up
abbrev pub gives_up : ℕ → List Event → Bool
gives_up channel [] = false
gives_up channel (GaveUp c ∷ log) = (c == channel) || gives_up channel log
gives_up channel (event ∷ log) =
    if channel_of event == channel then false else gives_up channel log

-- The answer that an event brings, with these events behind it: to what its link asks now, unless
-- the link gives up next.
abbrev pub answer_at : {X C : Type 0} → Server X C → Serving X C → Event → List Event
    → Option (Answer C)
answer_at server run (GaveUp channel) rest = Some (answer_of server run channel None)
answer_at server run event rest =
    if gives_up (channel_of event) rest then None
    else option_map (λ (m : Message). answer_of server run (channel_of event) (Some m))
    (asked_now server.talk (channel_of event) run.past run.answers)

abbrev pub with_event : {X C : Type 0} → Serving X C → Event → Serving X C
with_event run event = record run { past = run.past ++ event ∷ [] }

abbrev pub with_answer : {X C : Type 0} → Server X C → Serving X C → Option (Answer C)
    → Serving X C
with_answer server run None = run
with_answer server run (Some answer) = record {
  past = run.past;
  state = unwrap_or (next_state server run.state answer.command) run.state;
  commands = answer.commands;
  accepted = answer.accepted + one_if answer.is_accepted;
  answers = run.answers ++ answer ∷ [];
}

-- after one event, with these behind it
abbrev pub after_event : {X C : Type 0} → Server X C → Serving X C → Event → List Event
    → Serving X C
after_event server run event rest =
    let run = with_event run event in with_answer server run (answer_at server run event rest)

abbrev pub serve_on : {X C : Type 0} → Server X C → Serving X C → List Event → Serving X C
serve_on server run [] = run
serve_on server run (event ∷ rest) = serve_on server (after_event server run event rest) rest

-- the run of a log, from this state
abbrev pub served_by : {X C : Type 0} → Server X C → X → List Event → Serving X C
served_by server first log = serve_on server (start_at first) log

-- the commands that answers carried out, in order
abbrev pub commands_in : {C : Type 0} → List (Answer C) → List C
commands_in answers = filter_map (λ (a : Answer _). a.command) answers

abbrev pub accepted_command : {C : Type 0} → Answer C → Option C
accepted_command answer = if answer.is_accepted then answer.command else None

-- those of them that were accepted
abbrev pub accepted_in : {C : Type 0} → List (Answer C) → List C
accepted_in answers = filter_map accepted_command answers

-- the state after commands; one that is refused changes nothing
abbrev pub state_after : {X C : Type 0} → Server X C → X → List C → X
state_after server state [] = state
state_after server state (command ∷ commands) =
    state_after server (unwrap_or (server.turn state command) state) commands
