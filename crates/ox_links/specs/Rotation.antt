-- The slots of a server, which its log gives, and whose turn it is.
use Rattle.std.specs.Prelude.{ℕ, suc, ◌==◌, Bool, true, false, if◌then◌else◌}
use Rattle.std.specs.Prelude.{List, [], ◌∷◌, ◌++◌, drop, map, replicate, Option, Some, None}
use Rattle.std.specs.List.{list_any}
use Rattle.std.specs.Option.{option_map, option_or}
use Rattle.ox_outside.specs.Event.{Event, Opened, Shut}
use Rattle.ox_outside.specs.declared.site.Doorway.{Doorway}
use Rattle.ox_outside.specs.declared.site.Doorway.TheVariants.{Public, Operator}

-- ---- slots

-- a link takes the lowest free slot
abbrev pub with_link : ℕ → List (Option ℕ) → List (Option ℕ)
with_link channel [] = []
with_link channel (None ∷ slots) = Some channel ∷ slots
with_link channel (Some c ∷ slots) = Some c ∷ with_link channel slots

abbrev pub without_link : ℕ → List (Option ℕ) → List (Option ℕ)
without_link channel [] = []
without_link channel (None ∷ slots) = None ∷ without_link channel slots
without_link channel (Some c ∷ slots) =
    (if c == channel then None else Some c) ∷ without_link channel slots

abbrev pub slots_after : List (Option ℕ) → List Event → List (Option ℕ)
slots_after slots [] = slots
slots_after slots (Opened channel door ∷ log) = slots_after (with_link channel slots) log
slots_after slots (Shut channel ∷ log) = slots_after (without_link channel slots) log
slots_after slots (event ∷ log) = slots_after slots log

-- the link in each slot, after a log
abbrev pub slots_in : List Event → List (Option ℕ)
slots_in log = slots_after (replicate 32 None) log

-- ---- the rotation

-- whose turn it may be
pub data Who : Type 0 where
  door_of : Doorway → Who
  link_of : ℕ → Who

abbrev pub is_free : Option ℕ → Bool
is_free None = true
is_free (Some channel) = false

-- both doors, which are passed over while no slot is free
abbrev pub door_places : List (Option ℕ) → List (Option Who)
door_places slots =
    if list_any is_free slots
    then Some (door_of Public) ∷ Some (door_of Operator) ∷ [] else None ∷ None ∷ []

-- the rotation: the doors, and then the slots, of which an empty one is passed over
abbrev pub places : List (Option ℕ) → List (Option Who)
places slots = door_places slots ++ map (option_map link_of) slots

-- the first of these that isn't passed over, with its place, where the first one's place is this
abbrev pub first_who : ℕ → List (Option Who) → Option (ℕ × Who)
first_who place [] = None
first_who place (None ∷ others) = first_who (suc place) others
first_who place (Some who ∷ others) = Some (place, who)

-- whose turn it is: the first that isn't passed over, from this place on and round
abbrev pub next_turn : ℕ → List (Option ℕ) → Option (ℕ × Who)
next_turn place slots =
    option_or (first_who place (drop place (places slots))) (first_who 0 (places slots))
