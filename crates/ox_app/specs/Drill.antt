-- A drill: its commands, carried out over the files, and then the line that is shown of them.
use Rattle.std.specs.Prelude.{◌≡◌, ◌≢◌, ◌⊎◌, ℕ, List, [], ◌∷◌, Some, Result, Ok, Err}
use Rattle.ox_outside.specs.Event.{Event}
use Rattle.ox_outside.specs.Files.{Files}
use Rattle.ox_outside.specs.Log.{Grows}
use Rattle.ox_outside.specs.Runs.{LeavesOnly, OnlyTalks}
use Rattle.ox_outside.specs.declared.site.Site.{Ghosts as Meanings}
use Rattle.ox_files.specs.Stands.{stands}
use Rattle.ox_store.specs.Make.{no_files}
use Rattle.ox_drill.specs.Drill.{DrillsInTurn, IsDrilled, drill_stack}
use Rattle.ox_drill.specs.Line.{drill_line}
use Rattle.ox_store.specs.declared.fault.MakeFault.{MakeFault}
use Rattle.ox_app.specs.Headline.{AddsNoImage}
use Rattle.ox_app.specs.Show.{HearsNothing}
use Rattle.ox_app.specs.Status.{IsSparing, drill_status}
use Rattle.ox_app.specs.declared.status.Status.{Status}
use Rattle.ox_app.specs.declared.status.Status.TheVariants as ends

-- the line of a drill of so many blocks: what the index then counts
abbrev pub told_line : ℕ → List ℕ
told_line n = drill_line n (drill_stack n).index

-- the line came to be shown
abbrev pub IsTold : Status → Type 0
IsTold status = (status ≡ ends.Done) ⊎ (status ≡ ends.ShowFault)

-- how a run ends whose drill ended so
abbrev pub EndsAs : Result (List ℕ) MakeFault → Status → Type 0
EndsAs (Ok line) status = IsTold status
EndsAs (Err fault) status = status ≡ drill_status fault

-- The commands are carried out in turn up to a site; from there on channel 0 alone is called, and
-- nothing is heard.
pub record CarriesThenTells {S : Type 0} (means : Meanings S) (n : ℕ) (status : Status)
    (old new : S) : Type 0 where
  pub over : S
  pub ended : Result (List ℕ) MakeFault
  pub ends_as : EndsAs ended status
  pub in_turn : DrillsInTurn means n ended old over
  pub tells : OnlyTalks means HearsNothing over new

-- an event of channel 0 is logged once the files stand for the stack to which all commands lead,
-- and not before
abbrev pub DrilledBefore : ℕ → Files → List Event → Type 0
DrilledBefore n files [] = Unit {0}
DrilledBefore n files (event ∷ events) = stands files ≡ Ok (drill_stack n)

-- so it is at each moment of a run
abbrev pub DrillsFirst : {S : Type 0} → Meanings S → ℕ → S → S → Type 0
DrillsFirst means n old new =
    LeavesOnly means old new
    (λ r. Grows (DrilledBefore n r.files) (means.log old) (Some r.log))

-- files that aren't both empty are refused, and spared whatever the status is
pub record Spares {S : Type 0} (means : Meanings S) (status : Status) (old new : S)
    : Type 0 where
  pub refuses : IsSparing status
  pub spares : AddsNoImage means old new

-- a drill in a run, over files that are told
pub record RunsDrill {S : Type 0} (means : Meanings S) (n : ℕ) (status : Status) (old new : S)
    : Type 0 where
  pub carries : CarriesThenTells means n status old new
  -- the files stand for the stack to which all commands lead, and no crash leaves other ones
  pub drilled : IsTold status → IsDrilled means n new
  pub before : status ≢ ends.NotEmpty → DrillsFirst means n old new
  pub files : means.seen old ≢ no_files → Spares means status old new
