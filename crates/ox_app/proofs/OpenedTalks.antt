-- A talk over files that are opened, or aren't.
use Rattle.std.proofs.Common.{◌≡◌, ◌∙◌, inl, inr, List, [], Option, Some, refl, sym, ap, arith}
use Rattle.std.specs.Prelude.{Result, Ok, Err, IsErrOf}
use Rattle.std.specs.Option.{option_map}
use Rattle.std.proofs.lemmas.List.Elements.{All-nil}
use Rattle.ox_outside.specs.Counts.{StopsAtFault}
use Rattle.ox_outside.specs.Event.{Event}
use Rattle.ox_outside.specs.Files.{Files}
use Rattle.ox_outside.specs.Log.{Grows}
use Rattle.ox_outside.specs.declared.site.Site.{Ghosts as Meanings}
use Rattle.ox_outside.proofs.Counts.{stops_as}
use Rattle.ox_outside.proofs.Log.{grows_none}
use Rattle.ox_gated.specs.declared.fault.Halt.TheVariants as halts
use Rattle.ox_files.specs.Stands.{Misfit}
use Rattle.ox_follow.specs.World.{Leader, stood}
use Rattle.ox_model.specs.Stack.{Stack}
use Rattle.ox_pieces.proofs.StoodFiles.{stands_for_stood}
use Rattle.ox_pieces.specs.Stood.{leader_in, led_stands}
use Rattle.ox_store.specs.Fault.{IsMisfit}
use Rattle.ox_store.specs.declared.fault.OpenFault.{OpenFault}
use Rattle.ox_store.specs.declared.fault.OpenFault.TheVariants as opens
use Rattle.ox_app.specs.OneFrame.{Faults}
use Rattle.ox_app.specs.Show.{DiskFails}
use Rattle.ox_app.specs.Status.{IsFollowTalk, IsLeadTalk, IsUnopened, open_status}
use Rattle.ox_app.specs.Talks.{Party, RunsTalk}
use Rattle.ox_app.specs.declared.status.Status.{Status}
use Rattle.ox_app.specs.declared.status.Status.TheVariants as ends
use Rattle.ox_app.proofs.Pieces.{Own}
use Rattle.ox_app.proofs.Statuses.{ends_apart}
use Rattle.ox_app.proofs.TalkFaults.{no_end_stops}
use Rattle.ox_app.proofs.Talking.{IsStop}

-- ---- statuses

pub open_unopened : (fault : OpenFault) → IsUnopened (open_status fault)
open_unopened (opens.NotStore file at) = inl refl
open_unopened (opens.Halt halts.Disk) = inr (inl refl)
open_unopened (opens.Halt halts.Memory) = inr (inr refl)

open_stops : (fault : OpenFault) → IsStop (open_status fault)
open_stops (opens.NotStore file at) = no_end_stops ends.NotStore (refl, refl, refl, refl)
open_stops (opens.Halt halts.Disk) = no_end_stops ends.DiskFault (refl, refl, refl, refl)
open_stops (opens.Halt halts.Memory) = no_end_stops ends.Memory (refl, refl, refl, refl)

open_bounded : (fault : OpenFault) → open_status fault ≡ ends.TooMuch → ⊥
open_bounded (opens.NotStore file at) = ends_apart ends.NotStore ends.TooMuch refl
open_bounded (opens.Halt halts.Disk) = ends_apart ends.DiskFault ends.TooMuch refl
open_bounded (opens.Halt halts.Memory) = ends_apart ends.Memory ends.TooMuch refl

open_disk : (fault : OpenFault) → open_status fault ≡ ends.DiskFault → fault ≡ opens.Halt halts.Disk
open_disk (opens.NotStore file at) is = absurd (ends_apart ends.NotStore ends.DiskFault refl is)
open_disk (opens.Halt halts.Disk) is = refl
open_disk (opens.Halt halts.Memory) is = absurd (ends_apart ends.Memory ends.DiskFault refl is)

open_hear : (fault : OpenFault) → open_status fault ≡ ends.HearFault → ⊥
open_hear (opens.NotStore file at) = ends_apart ends.NotStore ends.HearFault refl
open_hear (opens.Halt halts.Disk) = ends_apart ends.DiskFault ends.HearFault refl
open_hear (opens.Halt halts.Memory) = ends_apart ends.Memory ends.HearFault refl

open_show : (fault : OpenFault) → open_status fault ≡ ends.ShowFault → ⊥
open_show (opens.NotStore file at) = ends_apart ends.NotStore ends.ShowFault refl
open_show (opens.Halt halts.Disk) = ends_apart ends.DiskFault ends.ShowFault refl
open_show (opens.Halt halts.Memory) = ends_apart ends.Memory ends.ShowFault refl

-- a talk that began had files that were opened
pub lead_opened : (status : Status) → IsLeadTalk status → status ≡ ends.NotStore → ⊥
lead_opened status (inl is) = λ e. ends_apart ends.Done ends.NotStore refl (sym is ∙ e)
lead_opened status (inr (inl is)) = λ e. ends_apart ends.BadFrame ends.NotStore refl (sym is ∙ e)
lead_opened status (inr (inr (inl is))) = λ e. ends_apart ends.Ahead ends.NotStore refl (sym is ∙ e)
lead_opened status (inr (inr (inr (inl is)))) = λ e. ends_apart ends.HearFault ends.NotStore refl (sym is ∙ e)
lead_opened status (inr (inr (inr (inr (inl is))))) = λ e. ends_apart ends.ShowFault ends.NotStore refl (sym is ∙ e)
lead_opened status (inr (inr (inr (inr (inr (inl is)))))) = λ e. ends_apart ends.Memory ends.NotStore refl (sym is ∙ e)
lead_opened status (inr (inr (inr (inr (inr (inr is)))))) = λ e. ends_apart ends.TooMuch ends.NotStore refl (sym is ∙ e)

pub follow_opened : (status : Status) → IsFollowTalk status → status ≡ ends.NotStore → ⊥
follow_opened status (inl is) = λ e. ends_apart ends.Done ends.NotStore refl (sym is ∙ e)
follow_opened status (inr (inl is)) = λ e. ends_apart ends.BadFrame ends.NotStore refl (sym is ∙ e)
follow_opened status (inr (inr (inl is))) = λ e. ends_apart ends.EndedEarly ends.NotStore refl (sym is ∙ e)
follow_opened status (inr (inr (inr (inl is)))) = λ e. ends_apart ends.DiskFault ends.NotStore refl (sym is ∙ e)
follow_opened status (inr (inr (inr (inr (inl is))))) = λ e. ends_apart ends.HearFault ends.NotStore refl (sym is ∙ e)
follow_opened status (inr (inr (inr (inr (inr (inl is)))))) = λ e. ends_apart ends.ShowFault ends.NotStore refl (sym is ∙ e)
follow_opened status (inr (inr (inr (inr (inr (inr (inl is))))))) = λ e. ends_apart ends.Memory ends.NotStore refl (sym is ∙ e)
follow_opened status (inr (inr (inr (inr (inr (inr (inr is))))))) = λ e. ends_apart ends.TooMuch ends.NotStore refl (sym is ∙ e)

-- ---- files that aren't opened

-- nothing is logged
pub unopened_talk : (party : Party) (fault : OpenFault) (log : Option (List Event)) → Grows (RunsTalk party (open_status fault)) log log
unopened_talk party fault log = grows_none (RunsTalk party (open_status fault)) log (record {
  only = All-nil Own;
  shown = (party.text [], refl);
  whole = λ end is. absurd (open_stops fault end is);
  within = omega arith;
  too_much = λ is. absurd (open_bounded fault is);
})

-- files that stand for a stack aren't at fault
pub no_misfit_there : (standing : Result Stack Misfit) (stack : Stack) (fault : OpenFault) → standing ≡ Ok stack → IsMisfit standing fault → open_status fault ≡ ends.NotStore → ⊥
no_misfit_there standing stack (opens.NotStore file at) is misfit e = cc (sym is ∙ misfit)
no_misfit_there standing stack (opens.Halt halts.Disk) is misfit e = ends_apart ends.DiskFault ends.NotStore refl e
no_misfit_there standing stack (opens.Halt halts.Memory) is misfit e = ends_apart ends.Memory ends.NotStore refl e

pub leader_stands : (files : Files) (leader : Leader Stack) → leader_in files ≡ Some leader → led_stands files ≡ Ok leader.state
leader_stands files leader is = stands_for_stood files (stood leader) (ap (option_map stood) is)

pub same_some : {A : Type 0} (found : Option A) (a b : A) → found ≡ Some a → found ≡ Some b → a ≡ b
same_some found a b is other = cc (sym is ∙ other)

module _ {S : Type 0} (means : Meanings S) where
  pub open_faults : {U : Type 0} (fault : OpenFault) (old new : S) → (IsErrOf {T = U} (Err fault) (opens.Halt halts.Disk) → DiskFails means old new)
      → StopsAtFault (IsErrOf {T = U} (Err fault) (opens.Halt halts.Disk)) ⊥ ⊥ (means.counts old) (means.counts new) → Faults {T = Unit {0}} means (Err (open_status fault)) old new
  open_faults {U} fault old new fails stopped = record {
    disk = λ is. fails (ap Err (open_disk fault (cc is)));
    hear = λ is. absurd (open_hear fault (cc is));
    show = λ is. absurd (open_show fault (cc is));
    stops = stops_as _ _ _ _ _ _ _ _ (λ is. let same : fault ≡ opens.Halt halts.Disk = cc is in ap (λ (f : OpenFault). Err (open_status f)) same) (λ no. absurd no) (λ no. absurd no) stopped;
  }
