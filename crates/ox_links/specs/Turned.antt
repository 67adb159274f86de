-- The turns of a server: what one of them logs, and what so many come to.
use Rattle.std.specs.Prelude.{◌≡◌, ◌⊎◌, ◌≤◌, ◌<◌, ℕ, suc, ◌+◌, ◌==◌, Bool, true, false, ◌&&◌, not}
use Rattle.std.specs.Prelude.{IsTrue, if◌then◌else◌}
use Rattle.std.specs.Prelude.{List, [], ◌∷◌, ◌++◌, length, flat_map, count_by, Some}
use Rattle.ox_outside.specs.Counts.{Counts, greatest}
use Rattle.ox_outside.specs.Event.{Event, Opened, Heard, Ended, Showed, Broke, GaveUp, Shut}
use Rattle.ox_outside.specs.Event.{was_opened}
use Rattle.ox_outside.specs.declared.site.Doorway.{Doorway}
use Rattle.ox_outside.specs.declared.site.Doorway.TheVariants.{Public, Operator}
use Rattle.ox_links.specs.Link.{all_shown, is_over}
use Rattle.ox_links.specs.Rotation.{Who, door_of, link_of, slots_in, next_turn}
use Rattle.ox_links.specs.Serving.{Server, served_by}

-- ---- one turn

-- What a turn of a link logs first, where an answer is due or not: what is due is shown, and before
-- it is wholly shown nothing is heard.
abbrev pub is_first : ℕ → Bool → Event → Bool
is_first channel due (Opened c door) = false
is_first channel due (Heard c bytes) = (c == channel) && not due
is_first channel due (Ended c) = (c == channel) && not due
is_first channel due (Showed c bytes) = (c == channel) && due
is_first channel due (Broke c) = c == channel
is_first channel due (GaveUp c) = false
is_first channel due (Shut c) = false

-- a link of this door came, with a number that no link had before; 0 is none
abbrev pub IsNewLink : Doorway → List Event → Event → Type 0
IsNewLink door past event =
    (c : ℕ) × (event ≡ Opened c door) × (1 ≤ c) × (was_opened c past ≡ false)

-- what a turn logs first
abbrev pub IsFirst : {X C : Type 0} → Server X C → X → List Event → Who → Event → Type 0
IsFirst server first past (door_of door) event = IsNewLink door past event
IsFirst server first past (link_of c) event =
    IsTrue (is_first c (not (all_shown c past (served_by server first past).answers)) event)

-- What it logs behind that event. A link that is over is shut, and no other. One that isn't over
-- may give up, where all answers from before the event are shown.
abbrev pub IsRest : {X C : Type 0} → Server X C → X → List Event → Who → Event → List Event → Type 0
IsRest server first past (door_of door) event rest = rest ≡ []
IsRest server first past (link_of c) event rest =
    let now = past ++ event ∷ [] in
    let over = is_over c now (served_by server first now).answers in
    (rest ≡ (if over then Shut c ∷ [] else []))
    ⊎ ((rest ≡ GaveUp c ∷ []) × (over ≡ false)
    × IsTrue (all_shown c now (served_by server first past).answers))

-- what one turn adds to a log; an idle one adds nothing
abbrev pub IsTurn : {X C : Type 0} → Server X C → X → List Event → Who → List Event → Type 0
IsTurn server first past who [] = Unit {0}
IsTurn server first past who (event ∷ rest) =
    IsFirst server first past who event × IsRest server first past who event rest

-- ---- turns, one after another

-- whose turn it was, and what it logged
pub record Turn : Type 0 where
  pub who : Who
  pub events : List Event

abbrev pub logged_by : List Turn → List Event
logged_by turns = flat_map (λ (t : Turn). t.events) turns

-- these turns follow one another behind this log, from this place of the rotation to that one
abbrev pub AreTurns : {X C : Type 0} → Server X C → X → List Event → ℕ → List Turn → ℕ → Type 0
AreTurns server first past place [] end = place ≡ end
AreTurns server first past place (turn ∷ turns) end =
    (at : ℕ) × (next_turn place (slots_in past) ≡ Some (at, turn.who))
    × IsTurn server first past turn.who turn.events
    × AreTurns server first (past ++ turn.events) (suc at) turns end

-- ---- idle turns

abbrev pub is_idle : Turn → Bool
is_idle turn = no_events turn.events
  where
    no_events : List Event → Bool
    no_events [] = true
    no_events (event ∷ events) = false

abbrev pub is_same : Who → Who → Bool
is_same (door_of Public) (door_of Public) = true
is_same (door_of Operator) (door_of Operator) = true
is_same (link_of c) (link_of d) = c == d
is_same a b = false

-- how many idle turns it had
abbrev pub idle_turns : Who → List Turn → ℕ
idle_turns who turns = count_by (λ (t : Turn). is_same who t.who && is_idle t) turns

-- a count rose by at least so many, or stands at its greatest value
abbrev pub RoseBy : ℕ → ℕ → ℕ → Type 0
RoseBy n old new = (old + n ≤ new) ⊎ (greatest ≤ new)

-- each idle turn was counted
pub record CountsIdles (turns : List Turn) (old new : Counts) : Type 0 where
  pub doors : (door : Doorway)
      → RoseBy (idle_turns (door_of door) turns) (old.door_idles door) (new.door_idles door)
  pub links : (channel : ℕ)
      → RoseBy (idle_turns (link_of channel) turns) (old.not_yets channel) (new.not_yets channel)

-- ---- a run

-- so many turns were made, with these counts before and after them, and nothing else is logged
pub record Turned {X C : Type 0} (server : Server X C) (first : X) (n : ℕ) (old new : Counts)
    (log : List Event) : Type 0 where
  pub turns : List Turn
  pub many : length turns ≡ n
  pub end : ℕ
  pub made : AreTurns server first [] 0 turns end
  pub idles : CountsIdles turns old new
  pub logged : log ≡ logged_by turns

-- what a turn from this place had logged when it was cut short: nothing, or its first event
abbrev pub IsCut : {X C : Type 0} → Server X C → X → List Event → ℕ → List Event → Type 0
IsCut server first past place [] = Unit {0}
IsCut server first past place (event ∷ []) =
    (at : ℕ) × (who : Who) × (next_turn place (slots_in past) ≡ Some (at, who))
    × IsFirst server first past who event
IsCut server first past place (event ∷ more ∷ rest) = ⊥

-- a run of so many turns was cut short: fewer were made, and then one at most was begun
pub record CutShort {X C : Type 0} (server : Server X C) (first : X) (n : ℕ) (log : List Event)
    : Type 0 where
  pub turns : List Turn
  pub fewer : length turns < n
  pub end : ℕ
  pub made : AreTurns server first [] 0 turns end
  pub cut : List Event
  pub is_cut : IsCut server first (logged_by turns) end cut
  pub logged : log ≡ logged_by turns ++ cut

-- a run of so many turns ended between two of them: fewer were made, and nothing else is logged
pub record IsFewer {X C : Type 0} (server : Server X C) (first : X) (n : ℕ) (log : List Event)
    : Type 0 where
  pub turns : List Turn
  pub fewer : length turns < n
  pub end : ℕ
  pub made : AreTurns server first [] 0 turns end
  pub logged : log ≡ logged_by turns
