-- Files that aren't opened.
use Rattle.std.specs.Prelude.{◌≡◌, ◌⊎◌, ℕ, IsTrue, List, [], ◌++◌, codes, decimal, Err}
use Rattle.ox_outside.specs.Event.{Event}
use Rattle.ox_outside.specs.declared.site.Site.{Ghosts as Meanings}
use Rattle.ox_outside.specs.declared.site.Which.{Which}
use Rattle.ox_outside.specs.declared.site.Which.TheVariants.{A, B}
use Rattle.ox_files.specs.Stands.{Misfit, stands}
use Rattle.ox_store.specs.declared.fault.OpenFault.{OpenFault}
use Rattle.ox_store.specs.declared.fault.OpenFault.TheVariants as opens
use Rattle.ox_app.specs.Show.{Says}
use Rattle.ox_app.specs.Status.{halt_status}
use Rattle.ox_app.specs.declared.status.Status.{Status}
use Rattle.ox_app.specs.declared.status.Status.TheVariants.{NotStore, Memory}

-- the letter of a file
abbrev pub letter_of : Which → List ℕ
letter_of A = codes "a"
letter_of B = codes "b"

-- the line where files are no store: the file and the place of the first test that fails
unfoldable pub not_store_line : Misfit → List ℕ
not_store_line misfit =
    codes "not a store " ++ letter_of misfit.file ++ codes " " ++ decimal misfit.at ++ codes "\n"

-- the line of the misfit that the files have is shown, where files are told, or a front of it where
-- showing failed
pub record SaysNotStore {S : Type 0} (means : Meanings S) (old new : S) : Type 0 where
  pub misfit : Misfit
  pub fails : IsTrue (means.told old) → stands (means.seen old) ≡ Err misfit
  pub says : Says means (not_store_line misfit) old new

-- how files that weren't opened are answered: only where they are no store is a line shown
abbrev pub UnopenedAs : {S : Type 0} → Meanings S → OpenFault → Status → S → S → Type 0
UnopenedAs means (opens.NotStore file at) status old new =
    ((status ≡ NotStore) × Says means (not_store_line (record { file = file; at = at })) old new)
    ⊎ ((status ≡ Memory) × (means.log new ≡ means.log old))
UnopenedAs means (opens.Halt halt) status old new =
    (status ≡ halt_status halt) × (means.log new ≡ means.log old)

-- what is logged then
abbrev pub LogsUnopened : OpenFault → List Event → Type 0
LogsUnopened (opens.NotStore file at) events = Unit {0}
LogsUnopened (opens.Halt halt) events = events ≡ []
