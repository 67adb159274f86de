-- The cases of an event: it brings no answer, for one of two reasons, or one to what was asked or to
-- a link that gives up.
use Rattle.std.proofs.Common.{◌≡◌, Bool, true, false, List, Option, Some, None, if◌then◌else◌, refl}
use Rattle.std.specs.Option.{option_map}
use Rattle.ox_outside.specs.Event.{Event, GaveUp, channel_of}
use Rattle.ox_http.specs.Talk.{Message}
use Rattle.ox_links.specs.Link.{Answer, asked_now}
use Rattle.ox_links.specs.Serving.{Server, Serving, answer_of, answer_at, gives_up}

-- what an event's link asks in a run whose log ends with it
abbrev pub asked_at : {X C : Type 0} → Server X C → Serving X C → Event → Option Message
asked_at server run event = asked_now server.talk (channel_of event) run.past run.answers

-- the link gives up with this event
abbrev pub IsGivingUp : Event → Type 0
IsGivingUp (GaveUp c) = Unit {0}
IsGivingUp event = ⊥

-- the event is to be answered so: its link gives up, or this was asked and isn't given up next
abbrev pub IsMoment : {X C : Type 0} → Server X C → Serving X C → Event → List Event → Option Message → Type 0
IsMoment server run event rest None = IsGivingUp event
IsMoment server run event rest (Some m) = (gives_up (channel_of event) rest ≡ false) × (asked_at server run event ≡ Some m)

by_asked : {A B : Type 0} (f : A → B) (P : Option B → Type 0) (b : Bool) (o : Option A)
    → (b ≡ true → P None) → (o ≡ None → P None) → ((m : A) → b ≡ false → o ≡ Some m → P (Some (f m)))
    → P (if b then None else option_map f o)
by_asked f P true o refused quiet answered = refused refl
by_asked f P false None refused quiet answered = quiet refl
by_asked f P false (Some m) refused quiet answered = answered m refl refl

pub at_event : {X C : Type 0} (server : Server X C) (run : Serving X C) (event : Event) (rest : List Event) (P : Option (Answer C) → Type 0)
    → (gives_up (channel_of event) rest ≡ true → P None) → (asked_at server run event ≡ None → P None)
    → ((m : Option Message) → IsMoment server run event rest m → P (Some (answer_of server run (channel_of event) m)))
    → P (answer_at server run event rest)
at_event server run (GaveUp c) rest P refused quiet answered = answered None tt
at_event server run event rest P refused quiet answered =
    by_asked (λ (m : Message). answer_of server run (channel_of event) (Some m)) P (gives_up (channel_of event) rest) (asked_at server run event)
    refused quiet (λ m b o. answered (Some m) (b, o))
