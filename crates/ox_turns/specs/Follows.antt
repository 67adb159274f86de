-- What the slots of a server hold that follows a log.
--
-- All is said from a start: the log as it stood, and the state that the desk had. What was logged
-- since then is what the links said and what they were shown.
use Rattle.std.specs.Prelude.{◌≡◌, ℕ, ◌≤◌, true, false, IsTrue, List, [], ◌++◌, length, drop}
use Rattle.std.specs.Prelude.{get_or, Option, Some, None}
use Rattle.ox_outside.specs.Event.{Event, heard_bytes, shown_bytes, has_ended, has_broken}
use Rattle.ox_outside.specs.Event.{has_given_up, is_named, was_opened, was_shut}
use Rattle.ox_outside.specs.Shown.{IsFrontOf}
use Rattle.ox_outside.specs.declared.site.Doorway.{Doorway}
use Rattle.ox_http.specs.First.{first_of, more}
use Rattle.ox_http.specs.Talk.{talk}
use Rattle.ox_session.specs.Link.{Link}
use Rattle.ox_links.specs.Link.{answers_to, is_operator, is_operators, last_closes, reply_bytes}
use Rattle.ox_links.specs.Rotation.{slots_in}
use Rattle.ox_links.specs.Serving.{Server, Serving, served_by}
use Rattle.ox_turns.specs.Places.{channels_of}
use Rattle.ox_turns.specs.declared.slot.Slot.{Slot}

pub record Start (X : Type 0) : Type 0 where
  pub log : List Event
  pub state : X

-- ---- one link

-- Of a stream of which these bytes were heard, the messages behind the first so many are those that
-- begin with what is pending, whatever comes later.
abbrev pub LeavesPending : ℕ → List ℕ → List ℕ → Type 0
LeavesPending n heard pending =
    (later : List ℕ) → drop n (talk (heard ++ later)) ≡ talk (pending ++ later)

-- behind the first so many there is no message, whatever comes later
abbrev pub LeavesNothing : ℕ → List ℕ → Type 0
LeavesNothing n heard = (later : List ℕ) → drop n (talk (heard ++ later)) ≡ []

-- A link of this door is open, and its session is as the run of the log says.
pub record IsAsLogged {X C : Type 0} (run : Serving X C) (channel : ℕ) (door : Doorway)
    (link : Link) : Type 0 where
  pub opened : IsTrue (was_opened channel run.past)
  pub not_shut : was_shut channel run.past ≡ false
  pub not_broken : has_broken channel run.past ≡ false
  pub not_ended : (has_ended channel run.past ≡ false) × (link.ended ≡ false)
  pub by_door : is_operators channel run.past ≡ is_operator door
  -- no request waits for its answer
  pub answered : link.asked ≡ false
  -- the answers are what was shown and then what is due
  pub given : reply_bytes (answers_to channel run.answers)
      ≡ shown_bytes channel run.past ++ link.due
  -- the last of them says close, as it does where the link gave up
  pub closing : link.closing ≡ last_closes (answers_to channel run.answers)
  pub gave_up : IsTrue (has_given_up channel run.past) → link.closing ≡ true
  -- what is pending is what the talk of the link leaves, behind the messages that were answered
  pub pending : link.closing ≡ false
      → LeavesPending (length (answers_to channel run.answers)) (heard_bytes channel run.past)
      link.heard
  pub no_more : link.closing ≡ true → has_given_up channel run.past ≡ false
      → LeavesNothing (length (answers_to channel run.answers)) (heard_bytes channel run.past)

-- With nothing due it asks nothing, and goes on.
pub record IsAtRest (link : Link) : Type 0 where
  pub goes_on : link.due ≡ [] → link.closing ≡ false
  pub asks_nothing : link.due ≡ [] → first_of link.heard ≡ more

pub record LinkFollows {X C : Type 0} (run : Serving X C) (channel : ℕ) (door : Doorway)
    (link : Link) : Type 0 where
  pub as_logged : IsAsLogged run channel door link
  pub at_rest : IsAtRest link

-- ---- all links

-- this link is in the slot of this number
abbrev pub Holds : List (Option Slot) → ℕ → Slot → Type 0
Holds slots at slot = get_or slots at None ≡ Some slot

-- to each link, also one that was shut, a front of its answers was shown
abbrev pub ShowsFrontsIn : {X C : Type 0} → Server X C → X → List Event → Type 0
ShowsFrontsIn server first log =
    (channel : ℕ) → 1 ≤ channel
    → IsFrontOf (shown_bytes channel log)
    (reply_bytes (answers_to channel (served_by server first log).answers))

-- From a start, slots and the state now follow what was logged since then.
pub record Follows {X C : Type 0} (server : Server X C) (start : Start X) (since : List Event)
    (slots : List (Option Slot)) (now : X) : Type 0 where
  -- each slot has the link that the log gives it, and each link is in one slot
  pub places : channels_of slots ≡ slots_in since
  pub apart : (i j : ℕ) (a b : Slot) → Holds slots i a → Holds slots j b
      → a.channel ≡ b.channel → i ≡ j
  -- it came since the start
  pub new : (i : ℕ) (slot : Slot) → Holds slots i slot
      → is_named slot.channel start.log ≡ false
  pub links : (i : ℕ) (slot : Slot) → Holds slots i slot
      → LinkFollows (served_by server start.state since) slot.channel slot.door slot.session
  pub shown : ShowsFrontsIn server start.state since
  pub state : now ≡ (served_by server start.state since).state
