-- Two runs that can't be told apart.
use Rattle.std.specs.Prelude.{◌≡◌, ℕ, ◌==◌, Bool, List, filter, map, take, Option, Some, None}
use Rattle.ox_outside.specs.Event.{Event, channel_of}
use Rattle.ox_http.specs.declared.Request.{Request}
use Rattle.ox_links.specs.Link.{Answer, Written, answers_to}
use Rattle.ox_links.specs.Serving.{Server, Serving, accepted_in}

-- ---- two logs in which a link does the same

-- a link's own events
abbrev pub events_of : ℕ → List Event → List Event
events_of channel log = filter (λ event. channel_of event == channel) log

-- the commands that were accepted before each answer to a link
abbrev pub accepted_before : {C : Type 0} → ℕ → List (Answer C) → List (List C)
accepted_before channel answers =
    map (λ (a : Answer _). take a.accepted (accepted_in answers)) (answers_to channel answers)

-- the replies to a link
abbrev pub replies_to : {C : Type 0} → ℕ → List (Answer C) → List Written
replies_to channel answers = map (λ (a : Answer _). a.reply) (answers_to channel answers)

-- ---- two servers of which the states of one stand for those of the other

-- a command is refused by both, or by none, and then states after it stand for one another too
abbrev pub SameTurn : {X Y : Type 0} → (X → Y → Type 0) → Option X → Option Y → Type 0
SameTurn stands_for None None = Unit {0}
SameTurn stands_for (Some x) (Some y) = stands_for x y
SameTurn stands_for x y = ⊥

-- By states that stand for one another both reply and turn alike; all else is the same.
pub record SameServer {X Y C : Type 0} (stands_for : X → Y → Type 0) (one : Server X C)
    (two : Server Y C) : Type 0 where
  pub talk : (bytes : List ℕ) → two.talk bytes ≡ one.talk bytes
  pub fault_reply : (status : ℕ) → two.fault_reply status ≡ one.fault_reply status
  pub unavailable : two.unavailable ≡ one.unavailable
  pub command : (operator : Bool) (request : Request)
      → two.command operator request ≡ one.command operator request
  pub reply : (x : X) (y : Y) → stands_for x y → (operator : Bool) (request : Request)
      → two.reply y operator request ≡ one.reply x operator request
  pub turn : (x : X) (y : Y) → stands_for x y → (command : C)
      → SameTurn stands_for (one.turn x command) (two.turn y command)

-- Runs with the same answers, and with states that stand for one another.
pub record SameRun {X Y C : Type 0} (stands_for : X → Y → Type 0) (one : Serving X C)
    (two : Serving Y C) : Type 0 where
  pub past : two.past ≡ one.past
  pub state : stands_for one.state two.state
  pub commands : two.commands ≡ one.commands
  pub accepted : two.accepted ≡ one.accepted
  pub answers : two.answers ≡ one.answers
