-- Logs and lists that go on.
use Rattle.std.specs.Prelude.{◌≡◌, ◌⊎◌, ℕ, false, List, [], ◌∷◌, ◌++◌}
use Rattle.ox_outside.specs.Event.{Event}
use Rattle.ox_links.specs.Link.{Answer}
use Rattle.ox_links.specs.Serving.{gives_up}

-- one answer to this link comes to others, or none
abbrev pub AddsOne : {C : Type 0} → ℕ → List (Answer C) → List (Answer C) → Type 0
AddsOne channel old new =
    (new ≡ old)
    ⊎ ((answer : Answer _) × (answer.channel ≡ channel) × (new ≡ old ++ answer ∷ []))

-- no link begins these events by giving up
abbrev pub GoesOnWithout : List Event → Type 0
GoesOnWithout more = (channel : ℕ) → gives_up channel more ≡ false
