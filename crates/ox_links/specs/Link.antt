-- What a log and the answers so far say of one link.
use Rattle.std.specs.Prelude.{ℕ, ◌==◌, Bool, true, false, ◌&&◌, ◌||◌, not, bytes_eq}
use Rattle.std.specs.Prelude.{List, [], ◌∷◌, length, filter, flat_map, slice_get, Option, None}
use Rattle.std.specs.Prelude.{if◌then◌else◌}
use Rattle.ox_outside.specs.Event.{Event, Opened, heard_bytes, shown_bytes, has_ended, has_broken}
use Rattle.ox_outside.specs.Event.{has_given_up}
use Rattle.ox_outside.specs.declared.site.Doorway.{Doorway}
use Rattle.ox_outside.specs.declared.site.Doorway.TheVariants.{Public, Operator}
use Rattle.ox_http.specs.Talk.{Message}

-- a reply as it is shown: its bytes, how many of them are its body, and whether the link ends with
-- it
pub record Written : Type 0 where
  pub bytes : List ℕ
  pub size : ℕ
  pub close : Bool

-- an answer to a link
pub record Answer (C : Type 0) : Type 0 where
  pub channel : ℕ
  -- what is answered, none where the link gave up
  pub message : Option Message
  pub reply : Written
  -- the command that it carries out, and whether that is accepted
  pub command : Option C
  pub is_accepted : Bool
  -- the number of commands, this one with them, and of those that were accepted before
  pub commands : ℕ
  pub accepted : ℕ

abbrev pub is_to : {C : Type 0} → ℕ → Answer C → Bool
is_to channel answer = answer.channel == channel

-- the answers to a link
abbrev pub answers_to : {C : Type 0} → ℕ → List (Answer C) → List (Answer C)
answers_to channel answers = filter (is_to channel) answers

-- the bytes of answers, joined
abbrev pub reply_bytes : {C : Type 0} → List (Answer C) → List ℕ
reply_bytes answers = flat_map (λ (a : Answer _). a.reply.bytes) answers

-- all answers to the link are wholly shown
abbrev pub all_shown : {C : Type 0} → ℕ → List Event → List (Answer C) → Bool
all_shown channel log answers =
    bytes_eq (reply_bytes (answers_to channel answers)) (shown_bytes channel log)

-- What the link asks now, with its stream read by this talk: once all its answers are shown, the
-- message behind those that were answered. A link that gave up asks no more.
abbrev pub asked_now : {C : Type 0} → (List ℕ → List Message) → ℕ → List Event → List (Answer C)
    → Option Message
asked_now talk channel log answers =
    if all_shown channel log answers && not (has_given_up channel log)
    then slice_get (talk (heard_bytes channel log)) (length (answers_to channel answers)) else None

abbrev pub last_closes : {C : Type 0} → List (Answer C) → Bool
last_closes [] = false
last_closes (a ∷ []) = a.reply.close
last_closes (a ∷ b ∷ answers) = last_closes (b ∷ answers)

-- The link is over: it broke; or all its answers are shown, and it has ended or the last of them
-- closes.
abbrev pub is_over : {C : Type 0} → ℕ → List Event → List (Answer C) → Bool
is_over channel log answers =
    has_broken channel log
    || (all_shown channel log answers
    && (has_ended channel log || last_closes (answers_to channel answers)))

abbrev pub is_operator : Doorway → Bool
is_operator Public = false
is_operator Operator = true

-- the link came in by the operator's door
abbrev pub is_operators : ℕ → List Event → Bool
is_operators channel [] = false
is_operators channel (Opened c door ∷ log) =
    if c == channel then is_operator door else is_operators channel log
is_operators channel (event ∷ log) = is_operators channel log
