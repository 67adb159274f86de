-- Steps of an opening, one behind the other.
use Rattle.std.proofs.Common.{◌≡◌, ◌∙◌, ap, subst}
use Rattle.std.specs.Prelude.{Result, Ok, Err, IfErr, IfOk, IsErrOf}
use Rattle.ox_outside.specs.Counts.{NoFault}
use Rattle.ox_outside.specs.Files.{Files}
use Rattle.ox_outside.specs.Runs.{OnlyLooks}
use Rattle.ox_outside.specs.declared.site.Site.{Ghosts as Meanings}
use Rattle.ox_outside.proofs.Calls.{looks_then}
use Rattle.ox_outside.proofs.Counts.{stops_after, stops_as, then_rose}
use Rattle.ox_gated.specs.Tail.{IsSettled}
use Rattle.ox_gated.specs.declared.fault.Halt.TheVariants as halts
use Rattle.ox_files.specs.Stands.{stands}
use Rattle.ox_store.specs.Fault.{IsMisfit}
use Rattle.ox_store.specs.Promises.{OpenPromises, StepPromises}
use Rattle.ox_store.specs.Store.{StoreContents}
use Rattle.ox_store.specs.declared.fault.OpenFault.{OpenFault}
use Rattle.ox_store.specs.declared.fault.OpenFault.TheVariants as opens
use Rattle.ox_store.proofs.Exits.{same_fault}
use Rattle.ox_store.proofs.PartsLemmas.{settled_looking}

module _ {S : Type 0} (means : Meanings S) where
  -- a step behind calls that only looked, of which none failed
  pub step_behind : {T : Type 0} (Stands : Files → T → Type 0) (Names : T → Type 0) (result : Result T OpenFault) (old mid new : S) → OnlyLooks means old mid → NoFault (means.counts old) (means.counts mid)
      → StepPromises means (Stands (means.seen mid)) Names result mid new → StepPromises means (Stands (means.seen old)) Names result old new
  step_behind Stands Names result old mid new first none next =
      let same = first.nothing.files in record {
        stood = λ told. subst (λ (files : Files). IfOk result (Stands files)) same (next.stood (first.calls.as_told ∙ told));
        names = next.names;
        not_store = λ told. subst (λ (files : Files). IfErr result (IsMisfit (stands files))) same (next.not_store (first.calls.as_told ∙ told));
        failed = λ is. then_rose _ _ _ first.calls.none_fell.disk (next.failed is);
        counted = stops_after _ _ _ _ _ _ none next.counted;
        looks = looks_then means old mid new first next.looks;
      }

  -- a step that fails, whatever would have stood
  pub step_fails : {T U : Type 0} {Stands Names : T → Type 0} (So Named : U → Type 0) (fault : OpenFault) (old new : S) → StepPromises means Stands Names (Err fault) old new → StepPromises means So Named (Err fault) old new
  step_fails {T} {U} So Named fault old new step = record {
    stood = λ told. tt;
    names = tt;
    not_store = step.not_store;
    failed = λ is. step.failed (ap Err (same_fault fault (opens.Halt halts.Disk) is));
    counted = stops_as (IsErrOf {T = T} (Err fault) (opens.Halt halts.Disk)) ⊥ ⊥ (IsErrOf {T = U} (Err fault) (opens.Halt halts.Disk)) ⊥ ⊥ _ _ (λ is. ap Err (same_fault fault (opens.Halt halts.Disk) is)) (λ no. no) (λ no. no) step.counted;
    looks = step.looks;
  }

  -- an opening that fails at a step
  pub opening_fails : {T : Type 0} {Stands Names : T → Type 0} (fault : OpenFault) (old new : S) → IsSettled means old → StepPromises means Stands Names (Err fault) old new → OpenPromises means (Err fault) old new
  opening_fails {T} fault old new settled step = record {
    stands = λ told. tt;
    fresh = tt;
    holds = λ told. tt;
    not_store = step.not_store;
    failed = λ is. step.failed (ap Err (same_fault fault (opens.Halt halts.Disk) is));
    counted = stops_as (IsErrOf {T = T} (Err fault) (opens.Halt halts.Disk)) ⊥ ⊥ (IsErrOf {T = StoreContents} (Err fault) (opens.Halt halts.Disk)) ⊥ ⊥ _ _ (λ is. ap Err (same_fault fault (opens.Halt halts.Disk) is)) (λ no. no) (λ no. no) step.counted;
    settled = λ other. settled_looking means old new step.looks settled;
    looks = step.looks;
  }

  -- an opening behind calls that only looked, of which none failed
  pub opening_behind : (result : Result StoreContents OpenFault) (old mid new : S) → OnlyLooks means old mid → NoFault (means.counts old) (means.counts mid) → OpenPromises means result mid new → OpenPromises means result old new
  opening_behind result old mid new first none next =
      let same = first.nothing.files in record {
        stands = λ told. subst (λ (files : Files). IfOk result (λ store. stands files ≡ Ok store.stack)) same (next.stands (first.calls.as_told ∙ told));
        fresh = next.fresh;
        holds = λ told. next.holds (first.calls.as_told ∙ told);
        not_store = λ told. subst (λ (files : Files). IfErr result (IsMisfit (stands files))) same (next.not_store (first.calls.as_told ∙ told));
        failed = λ is. then_rose _ _ _ first.calls.none_fell.disk (next.failed is);
        counted = stops_after _ _ _ _ _ _ none next.counted;
        settled = next.settled;
        looks = looks_then means old mid new first next.looks;
      }
