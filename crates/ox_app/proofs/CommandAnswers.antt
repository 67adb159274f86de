-- Files that no call touches, and commands that the disk alone stops.
use Rattle.std.proofs.Common.{◌≡◌, ◌∙◌, ◌⊎◌, inl, ap, sym}
use Rattle.std.specs.Prelude.{Err, IfErr, IsErrOf, Ok, Result}
use Rattle.ox_outside.specs.declared.site.Site.{Ghosts as Meanings}
use Rattle.ox_outside.specs.Crash.{Remains}
use Rattle.ox_model.specs.Stack.{Stack}
use Rattle.ox_files.specs.Stands.{stands}
use Rattle.ox_store.specs.Ready.{StandsForEither}
use Rattle.ox_outside.proofs.Calls.{leaves_at_first}
use Rattle.ox_gated.specs.Tail.{IsSettled}
use Rattle.ox_gated.specs.declared.fault.Halt.TheVariants as halts
use Rattle.ox_outside.specs.Runs.{LeavesOnly}
use Rattle.ox_app.specs.declared.stop.Stop.{Stop}
use Rattle.ox_app.specs.declared.stop.Stop.TheVariants as stops

-- where no call is made, a crash leaves what it left before
module _ {S : Type 0} (means : Meanings S) where
  pub files_untouched : ((site : S) (r : Remains) → means.left_since site (means.clock site) r → means.may_leave site r) → (site : S) (before after : Stack) → IsSettled means site
      → stands (means.seen site) ≡ Ok before → LeavesOnly means site site (λ r. StandsForEither before after r.files)
  files_untouched only_now site before after settled stood =
      leaves_at_first means site (λ r. StandsForEither before after r.files) (λ r left. inl (ap stands (settled r (only_now site r left)) ∙ stood))

-- where the disk alone stops a command, memory doesn't
pub by_disk_alone : {T : Type 0} (result : Result T Stop) → IfErr result (λ stop. stop ≡ stops.Halt halts.Disk) → IfErr result (λ stop. (stop ≡ stops.Halt halts.Disk) ⊎ (stop ≡ stops.Halt halts.Memory))
by_disk_alone (Ok x) none = none
by_disk_alone (Err stop) is = inl is

pub no_memory_by_disk : {T : Type 0} (result : Result T Stop) → IfErr result (λ stop. stop ≡ stops.Halt halts.Disk) → IsErrOf result (stops.Halt halts.Memory) → ⊥
no_memory_by_disk (Ok x) none e = cc e
no_memory_by_disk (Err stop) is e =
    let same : stop ≡ stops.Halt halts.Memory = cc e in
    let other : stops.Halt halts.Disk ≡ stops.Halt halts.Memory = sym is ∙ same in
    cc other
