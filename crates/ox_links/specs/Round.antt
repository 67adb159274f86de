-- Once round the rotation.
use Rattle.std.specs.Prelude.{◌≡◌, ℕ, suc, List, [], ◌∷◌, ◌++◌, take, drop, Option, Some, None}
use Rattle.ox_outside.specs.Event.{Event}
use Rattle.ox_links.specs.Rotation.{Who, places, slots_in}
use Rattle.ox_links.specs.Turned.{Turn, logged_by}

-- those that aren't passed over, each with its place, where the first one's place is this
abbrev pub numbered : ℕ → List (Option Who) → List (ℕ × Who)
numbered place [] = []
numbered place (None ∷ others) = numbered (suc place) others
numbered place (Some who ∷ others) = (place, who) ∷ numbered (suc place) others

-- each of them once: those from a place on, and then those before it
abbrev pub round_from : ℕ → List (Option ℕ) → List (ℕ × Who)
round_from place slots =
    numbered place (drop place (places slots)) ++ numbered 0 (take place (places slots))

-- after each of these turns the slots are as before them
abbrev pub SlotsStay : List Event → List Turn → Type 0
SlotsStay past turns =
    (done later : List Turn) → turns ≡ done ++ later
    → slots_in (past ++ logged_by done) ≡ slots_in past
