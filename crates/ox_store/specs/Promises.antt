-- What calls promise that open files.
use Rattle.std.specs.Prelude.{◌≡◌, ◌≤◌, ℕ, Result, Ok, IfErr, IfOk, IsErrOf, IsTrue}
use Rattle.ox_outside.specs.Counts.{Rose, StopsAtFault}
use Rattle.ox_outside.specs.Runs.{OnlyLooks}
use Rattle.ox_outside.specs.declared.site.Site.{Ghosts as Meanings}
use Rattle.ox_gated.specs.Parts.{AreParts, Unread}
use Rattle.ox_gated.specs.Tail.{Holds, IsSettled}
use Rattle.ox_gated.specs.declared.fault.Halt.TheVariants as halts
use Rattle.ox_files.specs.Stands.{stands as stands_for}
use Rattle.ox_store.specs.Fault.{IsMisfit}
use Rattle.ox_store.specs.Store.{StoreContents}
use Rattle.ox_store.specs.declared.fault.OpenFault.{OpenFault}
use Rattle.ox_store.specs.declared.fault.OpenFault.TheVariants as opens

-- A body may be read of which nothing was read yet, at most so many bytes at once.
pub record MayRead {S : Type 0} (means : Meanings S) (body : Unread) (bytes : ℕ) (site : S)
    : Type 0 where
  pub most : 1 ≤ bytes
  pub unread : body.read ≡ 0
  pub parts : IsTrue (means.told site) → AreParts body (means.seen site)

-- A step of an opening, whose value stands so and is named so.
pub record StepPromises {S T : Type 0} (means : Meanings S) (StandsSo NamesSo : T → Type 0)
    (result : Result T OpenFault) (old new : S) : Type 0 where
  pub stood : IsTrue (means.told old) → IfOk result StandsSo
  pub names : IfOk result NamesSo
  pub not_store : IsTrue (means.told old)
      → IfErr result (IsMisfit (stands_for (means.seen old)))
  pub failed : IsErrOf result (opens.Halt halts.Disk)
      → Rose (means.counts old).disk (means.counts new).disk
  pub counted : StopsAtFault (IsErrOf result (opens.Halt halts.Disk)) ⊥ ⊥ (means.counts old)
      (means.counts new)
  pub looks : OnlyLooks means old new

-- An opening of two files.
pub record OpenPromises {S : Type 0} (means : Meanings S) (result : Result StoreContents OpenFault)
    (old new : S) : Type 0 where
  pub stands : IsTrue (means.told old)
      → IfOk result (λ store. stands_for (means.seen old) ≡ Ok store.stack)
  pub fresh : IfOk result (λ store. store.commands ≡ 0)
  pub holds : IsTrue (means.told old) → IfOk result (λ store. Holds means store.tail new)
  pub not_store : IsTrue (means.told old)
      → IfErr result (IsMisfit (stands_for (means.seen old)))
  pub failed : IsErrOf result (opens.Halt halts.Disk)
      → Rose (means.counts old).disk (means.counts new).disk
  pub counted : StopsAtFault (IsErrOf result (opens.Halt halts.Disk)) ⊥ ⊥ (means.counts old)
      (means.counts new)
  -- each crash leaves what is read, unless a call failed
  pub settled : ¬ IsErrOf result (opens.Halt halts.Disk) → IsSettled means new
  pub looks : OnlyLooks means old new
