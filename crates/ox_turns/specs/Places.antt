-- What the slots of a server are seen as.
use Rattle.std.specs.Prelude.{◌≡◌, ◌≢◌, ◌<◌, ℕ, false, List, length, drop, get_or, set}
use Rattle.std.specs.Prelude.{map}
use Rattle.std.specs.Prelude.{Option, Some, None}
use Rattle.std.specs.List.{list_any}
use Rattle.std.specs.Option.{option_map}
use Rattle.ox_outside.specs.declared.site.Doorway.{Doorway}
use Rattle.ox_session.specs.Link.{new_link}
use Rattle.ox_links.specs.Rotation.{Who, first_who, is_free, next_turn, places}
use Rattle.ox_turns.specs.declared.slot.Slot.{Slot}

-- the link in each slot, if there is one, and the place in the rotation from which the next turn is
-- looked for
pub record Places : Type 0 where
  pub slots : List (Option Slot)
  pub place : ℕ

-- the number of the link in each slot
abbrev pub channels_of : List (Option Slot) → List (Option ℕ)
channels_of slots = map (option_map (λ (slot : Slot). slot.channel)) slots

-- the lowest slot that is free, if one is
abbrev pub IsLowestFree : List (Option Slot) → Option ℕ → Type 0
IsLowestFree slots (Some at) =
    (at < length slots) × (get_or slots at None ≡ None)
    × ((below : ℕ) → below < at → get_or slots below None ≢ None)
IsLowestFree slots None = list_any is_free (channels_of slots) ≡ false

-- a new link of this number and this door took the lowest free slot
pub record IsSeated (channel : ℕ) (door : Doorway) (old new : List (Option Slot)) : Type 0 where
  pub at : ℕ
  pub lowest : IsLowestFree old (Some at)
  pub slot : Slot
  pub numbered : slot.channel ≡ channel
  pub by_door : slot.door ≡ door
  pub silent : slot.session ≡ new_link
  pub seated : new ≡ set old at (Some slot)

-- ---- whose turn it is

-- of the places of the rotation from this one on, the first that isn't passed over
abbrev pub IsFirstOn : List (Option ℕ) → ℕ → Option ℕ → Type 0
IsFirstOn channels place None = first_who place (drop place (places channels)) ≡ None
IsFirstOn channels place (Some at) =
    (who : Who) × (first_who place (drop place (places channels)) ≡ Some (at, who))
    × (get_or (places channels) at None ≡ Some who)

-- it is the turn of this place
abbrev pub IsNext : List (Option ℕ) → ℕ → ℕ → Type 0
IsNext channels place at =
    (who : Who) × (next_turn place channels ≡ Some (at, who))
    × (get_or (places channels) at None ≡ Some who)
