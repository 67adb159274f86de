-- The growing of a store in a run, to version 3: what its files stand for at version 2, what it
-- shows, and what a crash leaves.
use Rattle.std.specs.Prelude.{◌≡◌, ◌⊎◌, ℕ, IsTrue, List, [], ◌∷◌, codes, Some, Ok, Err}
use Rattle.ox_outside.specs.Crash.{MayLeaveFiles}
use Rattle.ox_outside.specs.Event.{Event}
use Rattle.ox_outside.specs.Files.{Files, file_of, other}
use Rattle.ox_outside.specs.Log.{Grows}
use Rattle.ox_outside.specs.Runs.{LeavesOnly}
use Rattle.ox_outside.specs.declared.site.Site.{Ghosts as Meanings}
use Rattle.ox_gated.specs.OtherFile.{BeginsShut}
use Rattle.ox_gated.specs.Reading.{Found, is_any, reading}
use Rattle.ox_gated.specs.Tail.{IsSettled}
use Rattle.ox_model.specs.Stack.{Stack}
use Rattle.ox_files.specs.Stands.{Misfit, stands}
use Rattle.ox_store.specs.Grow.{growing}
use Rattle.ox_app.specs.Show.{Says}
use Rattle.ox_app.specs.Unopened.{not_store_line}

-- ---- what a run begins with

-- the site tells its files, and at version 2 they stand for this stack, and another file can follow
pub record StandsForGrowing {S : Type 0} (means : Meanings S) (site : S) (stack : Stack)
    : Type 0 where
  pub told : IsTrue (means.told site)
  pub stands_for : growing (means.seen site) ≡ Ok stack

-- the site tells its files, and so they stand for none: this test is the first that fails
pub record StandsForNoGrowing {S : Type 0} (means : Meanings S) (site : S) (misfit : Misfit)
    : Type 0 where
  pub told : IsTrue (means.told site)
  pub fails : growing (means.seen site) ≡ Err misfit

-- ---- lines

-- the line where a store became one of version 3
abbrev pub grown_line : List ℕ
grown_line = codes "ok grown\n"

-- the line of the first test that fails is shown, where files are told, or a front of it where
-- showing failed
pub record SaysNoGrowing {S : Type 0} (means : Meanings S) (old new : S) : Type 0 where
  pub misfit : Misfit
  pub fails : IsTrue (means.told old) → growing (means.seen old) ≡ Err misfit
  pub says : Says means (not_store_line misfit) old new

-- ---- what a crash leaves

-- the current file has version 3, and the other one is shut
pub record HasGrownFiles (files : Files) : Type 0 where
  pub found : Found
  pub reads : reading is_any files ≡ Ok found
  pub version : found.head.version ≡ 3
  pub shut : BeginsShut (file_of files (other found.file))

-- so it is, the files stand for this stack, and no crash leaves other ones
pub record IsGrown {S : Type 0} (means : Meanings S) (stack : Stack) (site : S) : Type 0 where
  pub stands_for : stands (means.seen site) ≡ Ok stack
  pub version : HasGrownFiles (means.seen site)
  pub settled : IsSettled means site

-- What a crash leaves when these events are logged: files that stand for the stack, and with an
-- event alone those of version 3. Before the first of them it may also be what it might have left
-- before the run.
abbrev pub LeavesGrowing : {S : Type 0} → Meanings S → S → Stack → Files → List Event → Type 0
LeavesGrowing means site stack files [] =
    MayLeaveFiles means.may_leave site files ⊎ (stands files ≡ Ok stack)
LeavesGrowing means site stack files (event ∷ events) =
    (stands files ≡ Ok stack) × HasGrownFiles files

-- so it is at each moment of a run
abbrev pub GrowsFirst : {S : Type 0} → Meanings S → Stack → S → S → Type 0
GrowsFirst means stack old new =
    LeavesOnly means old new (λ r.
    Grows (LeavesGrowing means old stack r.files) (means.log old) (Some r.log))
