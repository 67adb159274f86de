-- The servers: what a machine answers, each reply by fresh indexing of its blocks then, and what
-- its stack answers.
use Rattle.std.specs.Prelude.{◌≡◌, Bool, true, length, Result}
use Rattle.std.specs.Result.{result_ok}
use Rattle.ox_feed.specs.declared.command.Command.{Command}
use Rattle.ox_http.specs.Talk.{talk}
use Rattle.ox_http.specs.Written.{fault_reply, unavailable, written}
use Rattle.ox_http.specs.declared.Reply.{Reply}
use Rattle.ox_http.specs.declared.Request.{Request}
use Rattle.ox_links.specs.Link.{Written}
use Rattle.ox_links.specs.Serving.{Server}
use Rattle.ox_rules.specs.declared.refusal.Refusal.{Refusal}
use Rattle.ox_model.specs.Machine.{Machine, stack_of, turn_by_command}
use Rattle.ox_model.specs.Stack.{Stack, stack_after}
use Rattle.ox_asof.specs.AskedKept.{AskedKept}
use Rattle.ox_desk.specs.Asked.{asked_in, asked_on}
use Rattle.ox_desk.specs.Commands.{command_of}
use Rattle.ox_desk.specs.Replies.{reply_by}

-- a reply as it is shown
abbrev pub shown_as : Reply → Written
shown_as reply = record {
  bytes = written reply;
  size = length reply.body;
  close = reply.close;
}

-- the server of states that turn by commands, of which this is asked
abbrev pub server_by : {X : Type 0} → (X → Command → Result X Refusal) → (X → AskedKept)
    → Server X Command
server_by turn asked = record {
  talk = talk;
  fault_reply = λ status. shown_as (fault_reply status);
  unavailable = record { bytes = unavailable; size = 0; close = true };
  command = command_of;
  turn = λ state command. result_ok (turn state command);
  reply = λ state operator request. shown_as (reply_by turn asked state operator request);
}

-- the reply of a stack to a request; whether its link is the operator's
abbrev pub reply_to : Stack → Bool → Request → Reply
reply_to = reply_by stack_after asked_on

abbrev pub server_on : Server Stack Command
server_on = server_by stack_after asked_on

-- the server of a machine: each reply is by fresh indexing of the blocks that it has then
abbrev pub server_of : Server Machine Command
server_of = server_by turn_by_command asked_in

-- a machine stands for its stack
abbrev pub HasStack : Machine → Stack → Type 0
HasStack machine stack = stack_of machine ≡ stack
