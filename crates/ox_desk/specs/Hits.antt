-- Answers for which one reply may be kept.
use Rattle.std.specs.Prelude.{◌≡◌, ℕ, Bool, List}
use Rattle.ox_links.specs.Earlier.{IsToGet}
use Rattle.ox_links.specs.Link.{Answer}

-- an answer to a GET of this path, before which so many commands were accepted, and with which the
-- link ends, or doesn't
abbrev pub IsToGetOf : {C : Type 0} → List ℕ → ℕ → Bool → Answer C → Type 0
IsToGetOf path accepted close answer =
    (to_get : IsToGet path accepted answer) × (to_get.request.close ≡ close)
