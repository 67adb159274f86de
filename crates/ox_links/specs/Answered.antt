-- What each answer of a run is.
use Rattle.std.specs.Prelude.{false, ◌≡◌, ◌≤◌, ℕ, IsTrue, List, [], ◌∷◌, ◌++◌, length, slice_get}
use Rattle.std.specs.Prelude.{Option, Some, None, is_some}
use Rattle.std.specs.List.{AllPairs}
use Rattle.ox_outside.specs.Event.{Event, heard_bytes, has_given_up}
use Rattle.ox_http.specs.Talk.{Message}
use Rattle.ox_links.specs.Link.{Answer, answers_to, all_shown, is_operators}
use Rattle.ox_outside.specs.Shown.{IsFrontOf}
use Rattle.ox_links.specs.Serving.{Server, message_reply, message_command, next_state, state_after}
use Rattle.ox_links.specs.Serving.{commands_in, accepted_in}

-- With this log, an answer behind those before is to the next message of its link, which hasn't
-- given up, once all that was answered before is shown; or to a link that gives up.
abbrev pub IsToNext : {X C : Type 0} → Server X C → List Event → List (Answer C) → ℕ
    → Option Message → Type 0
IsToNext server log before channel (Some message) =
    IsTrue (all_shown channel log before) × (has_given_up channel log ≡ false)
    × (slice_get (server.talk (heard_bytes channel log)) (length (answers_to channel before))
    ≡ Some message)
IsToNext server log before channel None = IsTrue (has_given_up channel log)

-- An answer of the run of a log, behind those before it.
pub record IsInTurn {X C : Type 0} (server : Server X C) (first : X) (log : List Event)
    (before : List (Answer C)) (answer : Answer C) : Type 0 where
  -- its moment: the log as far as that, and what comes later
  pub now : List Event
  pub later : List Event
  pub logged : log ≡ now ++ later
  pub to_next : IsToNext server now before answer.channel answer.message
  -- it is by the state after the commands before it
  pub reply : answer.reply
      ≡ message_reply server (state_after server first (commands_in before))
      (is_operators answer.channel now) answer.message
  pub command : answer.command
      ≡ message_command server (is_operators answer.channel now) answer.message
  pub is_accepted : answer.is_accepted
      ≡ is_some (next_state server (state_after server first (commands_in before)) answer.command)
  pub commands : answer.commands ≡ length (commands_in (before ++ answer ∷ []))
  pub accepted : answer.accepted ≡ length (accepted_in before)

-- each of these answers is so, behind those before it
abbrev pub AllInTurn : {X C : Type 0} → Server X C → X → List Event → List (Answer C) → Type 0
AllInTurn {C = C} server first log answers =
    (before after : List (Answer C)) (answer : Answer C) → answers ≡ before ++ answer ∷ after
    → IsInTurn server first log before answer

-- answers to these messages, one after another, but for those that are to none
abbrev pub AreTo : {C : Type 0} → List (Answer C) → List Message → Type 0
AreTo {C = C} answers messages =
    (j : ℕ) (answer : Answer C) (message : Message) → slice_get answers j ≡ Some answer
    → answer.message ≡ Some message → slice_get messages j ≡ Some message

-- the numbers of commands never fall
abbrev pub NeverFall : {C : Type 0} → List (Answer C) → Type 0
NeverFall answers = AllPairs (λ (a b : Answer _). a.commands ≤ b.commands) answers

-- what a stream says stays, whatever follows it
abbrev pub TalkGoesOn : (List ℕ → List Message) → Type 0
TalkGoesOn talk = (x y : List ℕ) → IsFrontOf (talk x) (talk (x ++ y))
