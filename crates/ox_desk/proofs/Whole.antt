-- Every reply is one head and as many bytes as it tells.
use Rattle.std.proofs.Common.{◌≡◌, ◌≤◌, Bool, true, false, List, [], ◌++◌, length, Option, Some, None, cond, refl, sym, ap, ◌∙◌, arith}
use Rattle.std.specs.Prelude.{Result, Ok, Err}
use Rattle.std.proofs.lemmas.List.{append-nil}
use Rattle.ox_outside.specs.Shown.{IsFrontOf}
use Rattle.ox_feed.specs.declared.command.Command.{Command}
use Rattle.ox_http.specs.Talk.{Message, has_ended, left, talk, talk_behind}
use Rattle.ox_http.specs.Written.{written}
use Rattle.ox_http.specs.declared.Reply.{Reply}
use Rattle.ox_http.specs.declared.Request.{Request}
use Rattle.ox_http.proofs.Talking.{talks_join}
use Rattle.ox_links.specs.Answered.{TalkGoesOn}
use Rattle.ox_links.specs.Quiet.{Speaks}
use Rattle.ox_rules.specs.declared.refusal.Refusal.{Refusal}
use Rattle.ox_asof.specs.AskedKept.{AskedKept}
use Rattle.ox_desk.specs.Commands.{command_of}
use Rattle.ox_desk.specs.Queries.{query_reply}
use Rattle.ox_desk.specs.Replies.{command_reply, reply_by, reply_or}
use Rattle.ox_desk.specs.Servers.{server_by, shown_as}
use Rattle.ox_desk.specs.Telling.{query_told}
use Rattle.ox_desk.specs.Whole.{IsOneReply}

pub written_some : (reply : Reply) → 1 ≤ length (written reply)
unfolding written
written_some reply = omega arith

nothing_said : talk [] ≡ []
unfolding talk talk_behind
nothing_said = refl

front_by : (b : Bool) (x y whole : List Message) → whole ≡ cond b x (x ++ y) → IsFrontOf x whole
front_by true x y whole is = ([], append-nil x ∙ sym is)
front_by false x y whole is = (y, sym is)

pub talk_stays : TalkGoesOn talk
talk_stays x y = front_by (has_ended (talk x)) (talk x) (talk (left x ++ y)) (talk (x ++ y)) (talks_join x y)

module _ {X : Type 0} (turn : X → Command → Result X Refusal) (asked : X → AskedKept) where
  came_whole : (close : Bool) (r : Result X Refusal) → IsOneReply close (shown_as (command_reply asked r close))
  came_whole close (Ok new) = record { said = _; bytes = refl; size = refl; fits = record { kind = refl; encoding = tt }; closes = (refl, refl) }
  came_whole close (Err refusal) = record { said = _; bytes = refl; size = refl; fits = record { kind = refl; encoding = tt }; closes = (refl, refl) }

  reply_whole : (state : X) (request : Request) (o : Option Command) → IsOneReply request.close (shown_as (reply_or turn asked state request o))
  reply_whole state request (Some command) = came_whole request.close (turn state command)
  reply_whole state request None =
      let told = query_told (asked state) request in
      record { said = query_reply (asked state) request; bytes = refl; size = refl; fits = told.1; closes = (told.0, told.0) }

  pub one_reply : (state : X) (operator : Bool) (request : Request) → IsOneReply request.close (shown_as (reply_by turn asked state operator request))
  one_reply state operator request = reply_whole state request (command_of operator request)

  pub doors_alike : (state : X) (request : Request) → command_of true request ≡ None
      → shown_as (reply_by turn asked state true request) ≡ shown_as (reply_by turn asked state false request)
  doors_alike state request none = ap (λ (o : Option Command). shown_as (reply_or turn asked state request o)) none

  pub speaks : Speaks (server_by turn asked)
  speaks = record {
    nothing = nothing_said;
    fault_reply = λ status. written_some _;
    unavailable = omega arith;
    reply = λ state operator request. written_some _;
  }
