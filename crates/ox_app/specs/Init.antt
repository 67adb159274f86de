-- The making of a store.
use Rattle.std.specs.Prelude.{◌≡◌, ℕ, List, [], ◌∷◌, codes, Some, Ok}
use Rattle.ox_outside.specs.Event.{Event}
use Rattle.ox_outside.specs.Files.{Files}
use Rattle.ox_outside.specs.Log.{Grows}
use Rattle.ox_outside.specs.declared.site.Site.{Ghosts as Meanings}
use Rattle.ox_sat.specs.declared.profiles.ProfileName.{ProfileName}
use Rattle.ox_files.specs.Stands.{stands}
use Rattle.ox_rules.specs.Text.{ok_text}
use Rattle.ox_store.specs.Make.{made_stack}
use Rattle.ox_gated.specs.Tail.{IsSettled}
use Rattle.ox_outside.specs.Runs.{LeavesOnly}

-- the line where a store was made: that of an accepted command which leaves no block
abbrev pub made_line : List ℕ
made_line = ok_text []

-- the line where a file isn't empty
abbrev pub not_empty_line : List ℕ
not_empty_line = codes "not empty\n"

-- the files stand for a store without a block, and no crash leaves other ones
abbrev pub IsMade : {S : Type 0} → Meanings S → ProfileName → ℕ → S → Type 0
IsMade means name depth site =
    (stands (means.seen site) ≡ Ok (made_stack name depth)) × IsSettled means site

-- an event of channel 0 is logged once the files stand for the store that was to be made, and not
-- before
abbrev pub MadeBefore : ProfileName → ℕ → Files → List Event → Type 0
MadeBefore name depth files [] = Unit {0}
MadeBefore name depth files (event ∷ events) = stands files ≡ Ok (made_stack name depth)

-- so it is at each moment of a run
abbrev pub MakesFirst : {S : Type 0} → Meanings S → ProfileName → ℕ → S → S → Type 0
MakesFirst means name depth old new =
    LeavesOnly means old new
    (λ r. Grows (MadeBefore name depth r.files) (means.log old) (Some r.log))
