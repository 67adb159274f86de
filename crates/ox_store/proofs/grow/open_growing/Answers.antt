use Rattle.std.proofs.Common.{◌≡◌, ◌≢◌, ◌∙◌, ap, subst, sym}
use Rattle.std.proofs.lemmas.Result.{IfOk-weaker}
use Rattle.std.specs.Prelude.{Err, IfErr, IsErrOf, Result}
use Rattle.ox_outside.proofs.Counts.{stops_as, stops_at_none}
use Rattle.ox_gated.specs.OldReading.{growing_reading}
use Rattle.ox_gated.specs.OtherFile.{last_generation}
use Rattle.ox_gated.specs.Reading.{Found, Fault, is_present}
use Rattle.ox_gated.specs.Tail.{Holds, Kept}
use Rattle.ox_gated.specs.declared.fault.GateFault.TheVariants as gates
use Rattle.ox_gated.specs.declared.fault.Halt.TheVariants as halts
use Rattle.ox_gated.specs.declared.head.Head.{Head}
use Rattle.ox_files.specs.Stands.{stack_in}
use Rattle.ox_store.specs.Fault.{IsMisfit}
use Rattle.ox_store.specs.declared.fault.OpenFault.TheVariants as faults
use Rattle.ox_store.proofs.Exits.{same_fault}
use Rattle.ox_store.proofs.GrowingFiles.{tail_growing}
use Rattle.ox_store.proofs.OldStores.{none_failed}
use Rattle.ox_store.proofs.grow.open_growing.Goals as goal

pub store_of-requires-clause-head : goal.store_of-requires-clause-head
store_of-requires-clause-head g c = (c.in-Ok.ensures.head.0, ap is_present c.in-Ok.ensures.head.1)

pub returns-in-Ok : goal.returns-in-Ok
returns-in-Ok g c =
    let store = c.store_of.result in
    let opened = c.in-Ok.opened in
    let first = c.in-Ok.ensures in
    let opens = first.opens in record {
      grown = λ told. IfOk-weaker store _ _ (λ s is. ap stack_in (opens.found told) ∙ is) c.store_of.ensures.stack;
      tail = λ told found is.
          let at = tail_growing opened.tail (g.S.Site.seen c.args.site.now) (g.S.Site.seen c.open_growing.new.site) found opens.reads.run.looks.nothing.files (opens.holds told).keeps is in
          IfOk-weaker store _ _ (λ s same. subst (λ (t : Kept). (t.file ≡ found.file) × (t.head ≡ found.head)) (sym same) at) c.store_of.ensures.tail;
      generation =
          let lesser = subst (λ (h : Head). h.generation ≢ last_generation) (sym first.head.0) first.generation in
          IfOk-weaker store _ _ (λ s same. subst (λ (t : Kept). t.head.generation ≢ last_generation) (sym same) lesser) c.store_of.ensures.tail;
      fresh = c.store_of.ensures.fresh;
      holds = λ told. IfOk-weaker store _ _ (λ s same. subst (λ (t : Kept). Holds g.S.Site t c.open_growing.new.site) (sym same) (opens.holds told)) c.store_of.ensures.tail;
      not_store = λ told. subst (λ (r : Result Found Fault). IfErr store (IsMisfit (stack_in r))) (sym (opens.found told)) c.store_of.ensures.misfit;
      failed = λ is. absurd (c.store_of.ensures.not_disk is);
      counted = stops_at_none _ _ _ _ _ (none_failed _ _ _ _ opens.reads.run.counted);
      looks = opens.reads.run.looks;
    }

pub returns-in-Err : goal.returns-in-Err
returns-in-Err g c = record {
  grown = λ told. tt;
  tail = λ told found is. tt;
  generation = tt;
  fresh = tt;
  holds = λ told. tt;
  not_store = λ told. c.of.ensures.misfit (growing_reading (g.S.Site.seen c.args.site.now)) (c.in-Err.ensures.opens.reads.not_store told);
  failed = λ is. c.in-Err.ensures.opens.reads.run.failed (ap Err (c.of.ensures.disk (same_fault _ _ is)));
  counted = stops_as (IsErrOf (Err c.in-Err.fault) (gates.Halt halts.Disk)) ⊥ ⊥ (IsErrOf (Err c.of.result) (faults.Halt halts.Disk)) ⊥ ⊥ _ _
      (λ is. ap Err (c.of.ensures.disk_alone (same_fault _ _ is))) (λ no. no) (λ no. no) c.in-Err.ensures.opens.reads.run.counted;
  looks = c.in-Err.ensures.opens.reads.run.looks;
}
