-- What is logged of the channels: links that came, bytes heard and shown, and how each ended.
use Rattle.std.specs.Prelude.{ℕ, Bool, false, List, [], ◌∷◌, ◌++◌, take, Option, Some, None}
use Rattle.std.specs.Prelude.{Result, Ok, Err, ◌==◌, ◌||◌, ◌&&◌, not, if◌then◌else◌}
use Rattle.ox_outside.specs.declared.site.Doorway.{Doorway}
use Rattle.ox_outside.specs.declared.site.Heard.{Heard as HeardAnswer}
use Rattle.ox_outside.specs.declared.site.Heard.TheVariants.{Bytes, NotYet as HeardNothing, End}
use Rattle.ox_outside.specs.declared.site.Shown.{Shown as ShownAnswer}
use Rattle.ox_outside.specs.declared.site.Shown.TheVariants.{Took, NotYet as TookNothing}
use Rattle.ox_outside.specs.declared.site.Failed.{Failed}

-- one event, with the number of its channel; 0 is the program's own input and output
pub data Event : Type 0 where
  Opened : (channel : ℕ) → (door : Doorway) → Event
  Heard : (channel : ℕ) → (bytes : List ℕ) → Event
  Ended : (channel : ℕ) → Event
  Showed : (channel : ℕ) → (bytes : List ℕ) → Event
  Broke : (channel : ℕ) → Event
  GaveUp : (channel : ℕ) → Event
  Shut : (channel : ℕ) → Event

abbrev pub channel_of : Event → ℕ
channel_of (Opened channel door) = channel
channel_of (Heard channel bytes) = channel
channel_of (Ended channel) = channel
channel_of (Showed channel bytes) = channel
channel_of (Broke channel) = channel
channel_of (GaveUp channel) = channel
channel_of (Shut channel) = channel

-- some event of the log names this channel
abbrev pub is_named : ℕ → List Event → Bool
is_named channel [] = false
is_named channel (event ∷ log) = (channel_of event == channel) || is_named channel log

-- the bytes heard on a channel, joined in order
abbrev pub heard_bytes : ℕ → List Event → List ℕ
heard_bytes channel [] = []
heard_bytes channel (Heard c bytes ∷ log) =
    if c == channel then bytes ++ heard_bytes channel log else heard_bytes channel log
heard_bytes channel (event ∷ log) = heard_bytes channel log

-- the bytes shown on a channel, joined in order
abbrev pub shown_bytes : ℕ → List Event → List ℕ
shown_bytes channel [] = []
shown_bytes channel (Showed c bytes ∷ log) =
    if c == channel then bytes ++ shown_bytes channel log else shown_bytes channel log
shown_bytes channel (event ∷ log) = shown_bytes channel log

abbrev pub has_ended : ℕ → List Event → Bool
has_ended channel [] = false
has_ended channel (Ended c ∷ log) = (c == channel) || has_ended channel log
has_ended channel (event ∷ log) = has_ended channel log

abbrev pub has_broken : ℕ → List Event → Bool
has_broken channel [] = false
has_broken channel (Broke c ∷ log) = (c == channel) || has_broken channel log
has_broken channel (event ∷ log) = has_broken channel log

abbrev pub was_opened : ℕ → List Event → Bool
was_opened channel [] = false
was_opened channel (Opened c door ∷ log) = (c == channel) || was_opened channel log
was_opened channel (event ∷ log) = was_opened channel log

abbrev pub was_shut : ℕ → List Event → Bool
was_shut channel [] = false
was_shut channel (Shut c ∷ log) = (c == channel) || was_shut channel log
was_shut channel (event ∷ log) = was_shut channel log

abbrev pub has_given_up : ℕ → List Event → Bool
has_given_up channel [] = false
has_given_up channel (GaveUp c ∷ log) = (c == channel) || has_given_up channel log
has_given_up channel (event ∷ log) = has_given_up channel log

-- Channel 0 is always there. Another is there once it was opened, until it is shut.
abbrev pub is_there : ℕ → List Event → Bool
is_there channel log = (channel == 0) || (was_opened channel log && not (was_shut channel log))

-- A link is a channel other than 0. It is open while it is there.
abbrev pub is_open : ℕ → List Event → Bool
is_open channel log = not (channel == 0) && is_there channel log

-- A failure is logged as `Broke` where it is the first of its channel.
abbrev pub fault_events : ℕ → List Event → List Event
fault_events channel log = if has_broken channel log then [] else Broke channel ∷ []

-- what a call of `hear` adds to the log, with the room as the call leaves it
abbrev pub hear_events : ℕ → List ℕ → Result HeardAnswer Failed → List Event → List Event
hear_events channel room (Ok (Bytes n)) log = Heard channel (take n room) ∷ []
hear_events channel room (Ok HeardNothing) log = []
hear_events channel room (Ok End) log = Ended channel ∷ []
hear_events channel room (Err failed) log = fault_events channel log

-- what a call of `show` adds to the log
abbrev pub show_events : ℕ → List ℕ → Result ShownAnswer Failed → List Event → List Event
show_events channel bytes (Ok (Took n)) log = Showed channel (take n bytes) ∷ []
show_events channel bytes (Ok TookNothing) log = []
show_events channel bytes (Err failed) log = fault_events channel log

-- what a call of `door` adds to the log
abbrev pub door_events : Doorway → Result (Option ℕ) Failed → List Event → List Event
door_events door (Ok (Some channel)) log = Opened channel door ∷ []
door_events door (Ok None) log = []
door_events door (Err failed) log = []

-- what a call of `give_up` adds to the log
abbrev pub give_up_events : ℕ → List Event → List Event
give_up_events channel log = GaveUp channel ∷ []

-- what a call of `shut` adds to the log
abbrev pub shut_events : ℕ → List Event → List Event
shut_events channel log = Shut channel ∷ []
