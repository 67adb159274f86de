-- The room that is kept for the events that can't be refused.
use Rattle.std.specs.Prelude.{ℕ, zero, suc, ◌+◌, max, Bool, true, false, List, [], ◌∷◌}
use Rattle.ox_outside.specs.Event.{Event, channel_of, has_broken, has_given_up, was_shut}

-- one past the greatest number that the log names: the numbers below it are channels, 0 among them
abbrev pub channels_in : List Event → ℕ
channels_in [] = 1
channels_in (event ∷ log) = max (channel_of event + 1) (channels_in log)

abbrev pub one_unless : Bool → ℕ
one_unless true = 0
one_unless false = 1

-- how many of `Broke`, `GaveUp` and `Shut` may still come of this channel
abbrev pub room_owed_by : ℕ → List Event → ℕ
room_owed_by channel log =
    one_unless (has_broken channel log) + one_unless (has_given_up channel log)
    + one_unless (was_shut channel log)

-- of the channels below this number
abbrev pub room_owed : ℕ → List Event → ℕ
room_owed zero log = 0
room_owed (suc channel) log = room_owed_by channel log + room_owed channel log
