-- A drill in a run: its commands, and then what is shown of them.
use Rattle.std.proofs.Common.{◌≡◌, ◌∙◌, ℕ, List, [], ◌∷◌, Some, inl, inr, refl, sym, ap, arith}
use Rattle.std.specs.Prelude.{Ok, Err}
use Rattle.ox_outside.specs.Crash.{Remains}
use Rattle.ox_outside.specs.Event.{Event}
use Rattle.ox_outside.specs.Files.{Files}
use Rattle.ox_outside.specs.Log.{Grows}
use Rattle.ox_outside.specs.Runs.{OnlyLooks, OnlyTalks}
use Rattle.ox_outside.specs.declared.site.Site.{Ghosts as Meanings}
use Rattle.ox_outside.proofs.Calls.{leaves_then, leaves_weaker}
use Rattle.ox_outside.proofs.Log.{grows_none, grows_same, grows_weaker}
use Rattle.ox_outside.proofs.OnlyTalks.{talks_none, talks_weaker}
use Rattle.ox_gated.specs.Writes.{OnlyWrites}
use Rattle.ox_gated.specs.declared.fault.Halt.TheVariants as halts
use Rattle.ox_files.specs.Stands.{stands}
use Rattle.ox_store.specs.Make.{no_files}
use Rattle.ox_drill.specs.Drill.{DrillsInTurn, IsDrilled, drill_stack}
use Rattle.ox_store.specs.declared.fault.MakeFault.{MakeFault}
use Rattle.ox_store.specs.declared.fault.MakeFault.TheVariants as makes
use Rattle.ox_app.specs.Drill.{DrilledBefore, DrillsFirst, IsTold, RunsDrill}
use Rattle.ox_app.specs.Show.{HearsNothing, ShowsFront}
use Rattle.ox_app.specs.Status.{IsSparing, drill_status}
use Rattle.ox_app.specs.Subcommands.{IsDrillLength, drill_words}
use Rattle.ox_app.specs.declared.status.Status.{Status}
use Rattle.ox_app.specs.declared.status.Status.TheVariants as ends
use Rattle.ox_app.proofs.Images.{grows_from, looked_then_talked, only_looked}
use Rattle.ox_app.proofs.Pieces.{quiet_none}
use Rattle.ox_app.proofs.Settled.{settled_talking}
use Rattle.ox_app.proofs.Subcommands.{same_number}

-- ---- how a run ends

refused_untold : IsTold ends.NotEmpty → ⊥
refused_untold (inl e) = cc e
refused_untold (inr e) = cc e

fault_untold : (fault : MakeFault) → IsTold (drill_status fault) → ⊥
fault_untold makes.NotEmpty told = refused_untold told
fault_untold (makes.Halt halts.Disk) (inl e) = cc e
fault_untold (makes.Halt halts.Disk) (inr e) = cc e
fault_untold (makes.Halt halts.Memory) (inl e) = cc e
fault_untold (makes.Halt halts.Memory) (inr e) = cc e

fault_spares : (fault : MakeFault) → IsSparing (drill_status fault)
fault_spares makes.NotEmpty = inl refl
fault_spares (makes.Halt halts.Disk) = inr (inl refl)
fault_spares (makes.Halt halts.Memory) = inr (inr refl)

-- ---- what a crash leaves

drilled_any : (n : ℕ) (files : Files) (events : List Event) → stands files ≡ Ok (drill_stack n) → DrilledBefore n files events
drilled_any n files [] stood = tt
drilled_any n files (event ∷ events) stood = stood

module _ {S : Type 0} (means : Meanings S) where
  -- nothing is logged while the files are written
  wrote_first : (n : ℕ) (old new : S) → OnlyWrites means old new → DrillsFirst means n old new
  wrote_first n old new writes =
      leaves_weaker means old new _ _ (λ r is. grows_same (DrilledBefore n r.files) (means.log old) (means.log old) (Some r.log) (grows_none (DrilledBefore n r.files) (means.log old) tt) (sym is)) writes.moments

  told_first : (line : List ℕ) (n : ℕ) (old mid new : S) → OnlyWrites means old mid → IsDrilled means n mid → OnlyTalks means (ShowsFront line) mid new → DrillsFirst means n old new
  told_first line n old mid new writes drilled talks =
      leaves_then means old mid new (λ r. Grows (DrilledBefore n r.files) (means.log old) (Some r.log)) (wrote_first n old mid writes)
      (leaves_weaker means mid new _ _ (λ r talked.
      grows_from (DrilledBefore n r.files) (means.log old) (means.log mid) (Some r.log) writes.as_logged
      (grows_weaker (ShowsFront line) (DrilledBefore n r.files) (means.log mid) (Some r.log)
      (λ events shows. drilled_any n r.files events (ap stands (talked.files.2 ∙ drilled.settled talked.files.0 talked.files.1) ∙ drilled.stands_for)) talked.grown)) talks.moments)

  still_drilled : (line : List ℕ) (n : ℕ) (mid new : S) → IsDrilled means n mid → OnlyTalks means (ShowsFront line) mid new → IsDrilled means n new
  still_drilled line n mid new drilled talks = record {
    stands_for = ap stands talks.files.files ∙ drilled.stands_for;
    settled = settled_talking means mid new talks.files drilled.settled;
  }

  -- all commands are carried out, and the line is shown
  pub drill_told : (line bytes : List ℕ) (n : ℕ) (status : Status) (old mid new : S) → IsTold status → DrillsInTurn means n (Ok line) old mid → IsDrilled means n mid → means.seen old ≡ no_files → OnlyWrites means old mid
      → OnlyTalks means (ShowsFront bytes) mid new → RunsDrill means n status old new
  drill_told line bytes n status old mid new told turns drilled empty writes talks = record {
    carries = record {
      over = mid;
      ended = Ok line;
      ends_as = told;
      in_turn = turns;
      tells = talks_weaker means (ShowsFront bytes) HearsNothing mid new (λ events shows. shows.quiet) talks;
    };
    drilled = λ _. still_drilled bytes n mid new drilled talks;
    before = λ _. told_first bytes n old mid new writes drilled talks;
    files = λ filled. absurd (filled empty);
  }

  -- files that aren't both empty are refused
  pub drill_refused : (line : List ℕ) (n : ℕ) (old mid new : S) → OnlyLooks means old mid → OnlyTalks means (ShowsFront line) mid new → RunsDrill means n ends.NotEmpty old new
  drill_refused line n old mid new looks talks = record {
    carries = record {
      over = mid;
      ended = Err makes.NotEmpty;
      ends_as = refl;
      in_turn = inl looks;
      tells = talks_weaker means (ShowsFront line) HearsNothing mid new (λ events shows. shows.quiet) talks;
    };
    drilled = λ told. absurd (refused_untold told);
    before = λ isnt. absurd (isnt refl);
    files = λ filled. record { refuses = inl refl; spares = looked_then_talked means (ShowsFront line) old mid new looks talks };
  }

  -- a fault ends the drill
  pub drill_stopped : ((site : S) (r : Remains) → means.left_since site (means.clock site) r → means.may_leave site r) → ((site : S) (r : Remains) → means.may_leave site r → means.log site ≡ Some r.log)
      → (fault : MakeFault) (n : ℕ) (old new : S) → DrillsInTurn {T = List ℕ} means n (Err fault) old new → OnlyWrites means old new → ((means.seen old ≡ no_files → ⊥) → OnlyLooks means old new)
      → RunsDrill means n (drill_status fault) old new
  drill_stopped only_now logs_now fault n old new turns writes spared = record {
    carries = record {
      over = new;
      ended = Err fault;
      ends_as = refl;
      in_turn = turns;
      tells = talks_none means only_now logs_now HearsNothing new quiet_none;
    };
    drilled = λ told. absurd (fault_untold fault told);
    before = λ _. wrote_first n old new writes;
    files = λ filled. record { refuses = fault_spares fault; spares = only_looked means old new (spared filled) };
  }

-- ---- words

second_of : (x a b : List ℕ) → x ∷ a ∷ [] ≡ x ∷ b ∷ [] → a ≡ b
second_of x a b is = cc is

pub lengths_same : (m n : ℕ) → IsDrillLength m → IsDrillLength n → drill_words m ≡ drill_words n → m ≡ n
lengths_same m n p q is = same_number m n (omega (arith, p.few)) (omega (arith, q.few)) (second_of _ _ _ is)
