-- What a desk that is asked promises, by what its step promised, or its command.
use Rattle.std.proofs.Common.{◌≡◌, ◌∙◌, Bool, List, ℕ, Some, sym, ap, subst}
use Rattle.std.specs.Prelude.{Result, Ok, Err, IfOk, OnOk, IsTrue}
use Rattle.ox_outside.specs.declared.site.Site.{Ghosts as Meanings}
use Rattle.ox_feed.specs.declared.command.Command.{Command}
use Rattle.ox_http.specs.Written.{written}
use Rattle.ox_http.specs.declared.Request.{Request}
use Rattle.ox_turns.specs.Desk.{state_behind}
use Rattle.ox_turns.specs.declared.handler.DeskFault.{DeskFault}
use Rattle.ox_turns.specs.declared.handler.Made.{Made}
use Rattle.ox_gated.specs.Tail.{Holds, Kept as Tail}
use Rattle.ox_model.specs.Stack.{Stack}
use Rattle.ox_files.specs.Stands.{stands}
use Rattle.ox_desk.specs.Commands.{command_of}
use Rattle.ox_desk.specs.Desk.{CarriesOut, DeskContents, Moved, Rests, Tells}
use Rattle.ox_desk.specs.DeskLaws.{serves_http}
use Rattle.ox_desk.specs.Servers.{reply_to, server_on}
use Rattle.ox_desk.proofs.Answering.{carried_behind, carried_moved, carried_reply}

-- files rest as they did behind a request that carried out nothing
pub rests_told : {S : Type 0} (means : Meanings S) (site : S) (old new : DeskContents) (request : Request) (bytes : List ℕ) → Tells old request bytes new
    → Rests means old site → Rests means new site
rests_told means site old new request bytes tells rested = record {
  is_open = subst (λ (b : Bool). IsTrue b) (sym tells.is_open) rested.is_open;
  holds = λ told. subst (λ (t : Tail). Holds means t site) (sym tells.tail) (rested.holds told);
  stands_for = λ told. subst (λ (s : Stack). stands (means.seen site) ≡ Ok s) (sym tells.stack) (rested.stands_for told);
}

-- a command was carried out, if the call answers
module _ (old new : DeskContents) (operator : Bool) (request : Request) (command : Command) (is : command_of operator request ≡ Some command) where
  pub carried_made : (r : Result Made DeskFault) → IfOk r (λ made. CarriesOut old command request.close made new) → IfOk r (λ made. made.bytes ≡ written (reply_to old.stack operator request))
  carried_made (Ok made) carries = carries.reply ∙ ap written (carried_reply old.stack operator request command is)
  carried_made (Err e) carries = tt

  pub carried_closes : (r : Result Made DeskFault) → IfOk r (λ made. CarriesOut old command request.close made new)
      → IfOk r (λ made. made.close ≡ (reply_to old.stack operator request).close)
  carried_closes (Ok made) carries = carries.closes ∙ sym (serves_http.reply_closes old.stack operator request)
  carried_closes (Err e) carries = tt

  pub carried_moves : (r : Result Made DeskFault) → IfOk r (λ made. CarriesOut old command request.close made new)
      → OnOk r (new.stack ≡ state_behind server_on old.stack operator request)
  carried_moves (Ok made) carries = carries.stack ∙ sym (carried_behind old.stack operator request command is)
  carried_moves (Err e) carries = tt

  pub carried_on : (r : Result Made DeskFault) → IfOk r (λ made. CarriesOut old command request.close made new) → OnOk r (Moved old request operator new)
  carried_on (Ok made) carries = carried_moved old new operator request command made is carries
  carried_on (Err e) carries = tt
