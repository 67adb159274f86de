-- A machine serves as its stack does.
use Rattle.std.proofs.Common.{◌≡◌, ◌∙◌, Bool, Option, Some, None, refl, sym, ap, subst}
use Rattle.std.specs.Prelude.{Result, Ok, Err}
use Rattle.std.specs.Result.{result_ok}
use Rattle.ox_feed.specs.declared.command.Command.{Command}
use Rattle.ox_http.specs.declared.Request.{Request}
use Rattle.ox_links.specs.Alike.{SameServer, SameTurn}
use Rattle.ox_rules.specs.declared.refusal.Refusal.{Refusal}
use Rattle.ox_model.specs.Machine.{Machine, older_of, stack_of, turn_by_command}
use Rattle.ox_model.specs.Stack.{Stack, stack_after}
use Rattle.ox_model.proofs.AnswersOfStacks.{length-older_of, obeys_alike, on_stack}
use Rattle.ox_asof.specs.AskedKept.{AskedKept}
use Rattle.ox_desk.specs.Asked.{asked_in, asked_on, now_in}
use Rattle.ox_desk.specs.Commands.{command_of}
use Rattle.ox_desk.specs.Queries.{query_reply}
use Rattle.ox_desk.specs.Replies.{command_reply, reply_or}
use Rattle.ox_desk.specs.Servers.{HasStack, server_of, server_on, shown_as}

-- as much is kept
asked_same : (machine : Machine) → asked_on (stack_of machine) ≡ asked_in machine
asked_same machine = λ i. record {
  first = record (now_in machine) { kept = length-older_of machine.profile machine.kept machine.blocks i };
  older = older_of machine.profile machine.kept machine.blocks;
}

turns_same : (machine : Machine) (stack : Stack) → HasStack machine stack → (command : Command)
    → on_stack (turn_by_command machine command) ≡ stack_after stack command
turns_same machine stack has command = obeys_alike machine (Some command) ∙ ap (λ (s : Stack). stack_after s command) has

came_same : (close : Bool) (result : Result Machine Refusal) → command_reply asked_on (on_stack result) close ≡ command_reply asked_in result close
came_same close (Ok machine) = refl
came_same close (Err refusal) = refl

reply_same : (machine : Machine) (stack : Stack) → HasStack machine stack → (request : Request) (command : Option Command)
    → reply_or stack_after asked_on stack request command ≡ reply_or turn_by_command asked_in machine request command
reply_same machine stack has request (Some command) =
    ap (λ (r : Result Stack Refusal). command_reply asked_on r request.close) (sym (turns_same machine stack has command))
    ∙ came_same request.close (turn_by_command machine command)
reply_same machine stack has request None =
    ap (λ (asked : AskedKept). query_reply asked request) (ap asked_on (sym has) ∙ asked_same machine)

turned : (result : Result Machine Refusal) → SameTurn HasStack (result_ok result) (result_ok (on_stack result))
turned (Ok machine) = refl
turned (Err refusal) = tt

pub served_alike : SameServer HasStack server_of server_on
served_alike = record {
  talk = λ bytes. refl;
  fault_reply = λ status. refl;
  unavailable = refl;
  command = λ operator request. refl;
  reply = λ machine stack has operator request. ap shown_as (reply_same machine stack has request (command_of operator request));
  turn = λ machine stack has command.
      subst (λ (r : Result Stack Refusal). SameTurn HasStack (result_ok (turn_by_command machine command)) (result_ok r))
      (turns_same machine stack has command) (turned (turn_by_command machine command));
}
