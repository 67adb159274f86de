-- Runs that open the store first: what is said of them where it was opened, and where it wasn't.
use Rattle.std.proofs.Common.{◌≡◌, ◌∙◌, inl, inr, List, ℕ, refl, sym}
use Rattle.std.specs.Prelude.{IsTrue, Result, Ok, Err, IsErrOf}
use Rattle.ox_outside.specs.Counts.{Rose}
use Rattle.ox_outside.specs.Runs.{Calls, OnlyLooks}
use Rattle.ox_outside.specs.declared.site.Site.{Ghosts as Meanings}
use Rattle.ox_outside.proofs.Counts.{rose_then, then_rose}
use Rattle.ox_gated.specs.declared.fault.Halt.TheVariants as halts
use Rattle.ox_model.specs.Stack.{Stack}
use Rattle.ox_files.specs.Stands.{Misfit, stands}
use Rattle.ox_store.specs.Fault.{IsMisfit}
use Rattle.ox_store.specs.declared.fault.OpenFault.{OpenFault}
use Rattle.ox_store.specs.declared.fault.OpenFault.TheVariants as opens
use Rattle.ox_app.specs.Show.{DiskFails, Says, ShowsFront, ShowsText, ShowsWhole}
use Rattle.ox_app.specs.Status.{IsApplyStatus, IsQueryStatus, IsServeStatus, IsUnopened, status_of}
use Rattle.ox_app.specs.Unopened.{SaysNotStore, UnopenedAs}
use Rattle.ox_app.specs.declared.status.Status.{Status}
use Rattle.ox_app.specs.declared.status.Status.TheVariants as ends
use Rattle.ox_app.specs.declared.stop.Stop.{Stop}
use Rattle.ox_app.specs.declared.stop.Stop.TheVariants as stops
use Rattle.ox_app.proofs.Images.{grows_from, reply_none}

-- files that stand for a stack have no misfit
pub no_misfit_stands : {A : Type 0} (standing : Result Stack Misfit) (stack : Stack) (misfit : Misfit) → standing ≡ Ok stack → standing ≡ Err misfit → A
no_misfit_stands standing stack misfit is fails = absurd (let e : Ok stack ≡ Err misfit = sym is ∙ fails in cc e)

-- two statuses that differ
pub differs : (status a b : Status) → (a ≡ b → ⊥) → status ≡ a → status ≡ b → ⊥
differs status a b apart is e = apart (sym is ∙ e)

disk_opens : ends.DiskFault ≡ ends.NotStore → ⊥
disk_opens e = cc

disk_undone : ends.DiskFault ≡ ends.Done → ⊥
disk_undone e = cc

memory_opens : ends.Memory ≡ ends.NotStore → ⊥
memory_opens e = cc

memory_undone : ends.Memory ≡ ends.Done → ⊥
memory_undone e = cc

-- how a run may end that wasn't opened
pub record OnlyUnopened (status : Status) : Type 0 where
  pub done : status ≡ ends.Done → ⊥
  pub hear : status ≡ ends.HearFault → ⊥
  pub show : status ≡ ends.ShowFault → ⊥
  pub door : status ≡ ends.DoorFault → ⊥
  pub much : status ≡ ends.TooMuch → ⊥

pub only_unopened : (status : Status) → IsUnopened status → OnlyUnopened status
only_unopened status (inl is) = record { done = λ e. cc e; hear = λ e. cc e; show = λ e. cc e; door = λ e. cc e; much = λ e. cc e }
only_unopened status (inr (inl is)) = record { done = λ e. cc e; hear = λ e. cc e; show = λ e. cc e; door = λ e. cc e; much = λ e. cc e }
only_unopened status (inr (inr is)) = record { done = λ e. cc e; hear = λ e. cc e; show = λ e. cc e; door = λ e. cc e; much = λ e. cc e }

pub unopened_query : (status : Status) → IsUnopened status → IsQueryStatus status
unopened_query status (inl is) = inr (inl is)
unopened_query status (inr (inl is)) = inr (inr (inl is))
unopened_query status (inr (inr is)) = inr (inr (inr (inr is)))

pub unopened_apply : (status : Status) → IsUnopened status → IsApplyStatus status
unopened_apply status (inl is) = inr (inl is)
unopened_apply status (inr (inl is)) = inr (inr (inl is))
unopened_apply status (inr (inr is)) = inr (inr (inr (inr (inr (inl is)))))

pub unopened_serve : (status : Status) → IsUnopened status → IsServeStatus status
unopened_serve status (inl is) = inr (inl is)
unopened_serve status (inr (inl is)) = inr (inr (inl is))
unopened_serve status (inr (inr is)) = inr (inr (inr (inr (inr is))))

-- how a run over a feed ends, by why it stopped
pub record EndsRun (result : Result (Unit {0}) Stop) : Type 0 where
  pub status : IsApplyStatus (status_of result)
  pub opened : status_of result ≡ ends.NotStore → ⊥
  pub hear : status_of result ≡ ends.HearFault → IsErrOf result stops.HearFault
  pub show : status_of result ≡ ends.ShowFault → IsErrOf result stops.ShowFault
  pub disk : status_of result ≡ ends.DiskFault → IsErrOf result (stops.Halt halts.Disk)

pub ends_run : (result : Result (Unit {0}) Stop) → EndsRun result
ends_run (Ok done) = record { status = inl refl; opened = λ e. cc e; hear = λ e. absurd (cc e); show = λ e. absurd (cc e); disk = λ e. absurd (cc e) }
ends_run (Err (stops.Halt halts.Disk)) = record { status = inr (inr (inl refl)); opened = λ e. cc e; hear = λ e. absurd (cc e); show = λ e. absurd (cc e); disk = λ e. refl }
ends_run (Err stops.HearFault) = record { status = inr (inr (inr (inl refl))); opened = λ e. cc e; hear = λ e. refl; show = λ e. absurd (cc e); disk = λ e. absurd (cc e) }
ends_run (Err stops.ShowFault) = record { status = inr (inr (inr (inr (inl refl)))); opened = λ e. cc e; hear = λ e. absurd (cc e); show = λ e. refl; disk = λ e. absurd (cc e) }
ends_run (Err (stops.Halt halts.Memory)) = record { status = inr (inr (inr (inr (inr (inl refl))))); opened = λ e. cc e; hear = λ e. absurd (cc e); show = λ e. absurd (cc e); disk = λ e. absurd (cc e) }
ends_run (Err stops.TooMuch) = record { status = inr (inr (inr (inr (inr (inr refl))))); opened = λ e. cc e; hear = λ e. absurd (cc e); show = λ e. absurd (cc e); disk = λ e. absurd (cc e) }

module _ {S : Type 0} (means : Meanings S) where
  -- a line is said behind calls that logged nothing
  pub says_after : (line : List ℕ) (old mid new : S) → Calls means old mid → means.log mid ≡ means.log old → Says means line mid new → Says means line old new
  says_after line old mid new calls same (inl whole) = inl (grows_from (ShowsWhole line) (means.log old) (means.log mid) (means.log new) same whole)
  says_after line old mid new calls same (inr front) =
      inr (
        then_rose ((means.counts old).show 0) ((means.counts mid).show 0) ((means.counts new).show 0) (calls.none_fell.show 0) front.0,
        grows_from (ShowsFront line) (means.log old) (means.log mid) (means.log new) same front.1,
      )

  -- the line of the misfit that the files have is said
  pub unopened_says : (fault : OpenFault) (status : Status) (old mid new : S) → OnlyLooks means old mid → (IsTrue (means.told old) → IsMisfit (stands (means.seen old)) fault)
      → UnopenedAs means fault status mid new → status ≡ ends.NotStore → SaysNotStore means old new
  unopened_says (opens.NotStore file at) status old mid new looks fails (inl said) is = record {
    misfit = record { file = file; at = at };
    fails = fails;
    says = says_after _ old mid new looks.calls looks.nothing.as_logged said.1;
  }
  unopened_says (opens.NotStore file at) status old mid new looks fails (inr quiet) is = absurd (differs status ends.Memory ends.NotStore memory_opens quiet.0 is)
  unopened_says (opens.Halt halts.Disk) status old mid new looks fails quiet is = absurd (differs status ends.DiskFault ends.NotStore disk_opens quiet.0 is)
  unopened_says (opens.Halt halts.Memory) status old mid new looks fails quiet is = absurd (differs status ends.Memory ends.NotStore memory_opens quiet.0 is)

  -- the disk failed while they were opened
  pub unopened_disk : {T : Type 0} (fault : OpenFault) (status : Status) (old mid new : S) → Calls means mid new
      → (IsErrOf {T = T} (Err fault) (opens.Halt halts.Disk) → Rose (means.counts old).disk (means.counts mid).disk) → UnopenedAs means fault status mid new → status ≡ ends.DiskFault → DiskFails means old new
  unopened_disk (opens.NotStore file at) status old mid new calls failed (inl said) is = absurd (let e : ends.NotStore ≡ ends.DiskFault = sym said.0 ∙ is in cc e)
  unopened_disk (opens.NotStore file at) status old mid new calls failed (inr quiet) is = absurd (let e : ends.Memory ≡ ends.DiskFault = sym quiet.0 ∙ is in cc e)
  unopened_disk (opens.Halt halts.Disk) status old mid new calls failed quiet is = rose_then _ _ _ (failed refl) calls.none_fell.disk
  unopened_disk (opens.Halt halts.Memory) status old mid new calls failed quiet is = absurd (let e : ends.Memory ≡ ends.DiskFault = sym quiet.0 ∙ is in cc e)

  -- nothing is shown of files that stand for a stack and weren't opened
  pub unopened_shows : (bytes : List ℕ) (stack : Stack) (fault : OpenFault) (status : Status) (old mid new : S) → stands (means.seen old) ≡ Ok stack → IsMisfit (stands (means.seen old)) fault
      → OnlyLooks means old mid → UnopenedAs means fault status mid new → (status ≡ ends.NotStore → ⊥) × ShowsText means bytes status old new
  unopened_shows bytes stack (opens.NotStore file at) status old mid new stood misfit looks says = no_misfit_stands (stands (means.seen old)) stack _ stood misfit
  unopened_shows bytes stack (opens.Halt halts.Disk) status old mid new stood misfit looks says = (
    differs status ends.DiskFault ends.NotStore disk_opens says.0,
    reply_none bytes status (means.log old) (means.log new) (differs status ends.DiskFault ends.Done disk_undone says.0) (says.1 ∙ looks.nothing.as_logged),
  )
  unopened_shows bytes stack (opens.Halt halts.Memory) status old mid new stood misfit looks says = (
    differs status ends.Memory ends.NotStore memory_opens says.0,
    reply_none bytes status (means.log old) (means.log new) (differs status ends.Memory ends.Done memory_undone says.0) (says.1 ∙ looks.nothing.as_logged),
  )
