use Rattle.std.proofs.Common.{◌∙◌, ap, subst, sym}
use Rattle.std.proofs.lemmas.Result.{IfOk-weaker}
use Rattle.std.specs.Prelude.{Err, IfErr, IsErrOf, Result}
use Rattle.ox_outside.proofs.Counts.{stops_as, stops_at_none}
use Rattle.ox_gated.specs.Begun.{HoldsWhole, IsBegun, IsWholeOrUnread}
use Rattle.ox_gated.specs.Parts.{AreParts}
use Rattle.ox_gated.specs.Reading.{Found, Fault, is_present, reading}
use Rattle.ox_gated.specs.Tail.{Holds, Kept}
use Rattle.ox_gated.specs.declared.fault.GateFault.TheVariants as gates
use Rattle.ox_gated.specs.declared.fault.Halt.TheVariants as halts
use Rattle.ox_files.specs.Stands.{stack_in}
use Rattle.ox_store.specs.Fault.{IsMisfit}
use Rattle.ox_store.specs.declared.fault.OpenFault.TheVariants as faults
use Rattle.ox_store.proofs.Exits.{no_fault, same_fault}
use Rattle.ox_store.proofs.OldStores.{none_failed}
use Rattle.ox_store.proofs.StepLaws.{opening_behind}
use Rattle.ox_store.proofs.store.Store.open_in_pieces.Goals as goal

pub store_of-requires : goal.store_of-requires
store_of-requires g c =
    let whole = subst IsWholeOrUnread c.in-Ok-Whole.field-0-is c.in-Ok-Whole.ensures.whole in record {
      head = (whole.head, ap is_present whole.version);
      lawful = whole.lawful;
    }

pub returns-in-Ok-Whole : goal.returns-in-Ok-Whole
returns-in-Ok-Whole g c =
    let store = c.store_of.result in
    let first = c.in-Ok-Whole.ensures in
    let found = λ (told : _). subst (IsBegun (g.S.Site.seen c.args.site.now)) c.in-Ok-Whole.field-0-is (first.begun told) in record {
      stands = λ told. IfOk-weaker store _ _ (λ s is. ap stack_in (found told) ∙ is) c.store_of.ensures.stack;
      fresh = c.store_of.ensures.fresh;
      holds = λ told.
          let held = subst (HoldsWhole g.S.Site c.begin.new.site) c.in-Ok-Whole.field-0-is (first.holds told) in
          IfOk-weaker store _ _ (λ s same. subst (λ (t : Kept). Holds g.S.Site t c.begin.new.site) (sym same) held) c.store_of.ensures.tail;
      not_store = λ told. subst (λ (r : Result Found Fault). IfErr store (IsMisfit (stack_in r))) (sym (found told)) c.store_of.ensures.misfit;
      failed = λ is. absurd (c.store_of.ensures.not_disk is);
      counted = stops_at_none _ _ _ _ _ (none_failed _ _ _ _ first.reads.run.counted);
      settled = λ other. first.settled (λ is. absurd (no_fault _ _ is));
      looks = c.begin.ensures.reads.run.looks;
    }

pub store_in_parts-requires : goal.store_in_parts-requires
store_in_parts-requires g c =
    let parts = c.in-Ok-Parts.parts in
    let first = c.in-Ok-Parts.ensures in
    let looks = c.begin.ensures.reads.run.looks in record {
      may = record {
        most = c.requires;
        unread = subst IsWholeOrUnread c.in-Ok-Parts.field-0-is first.whole;
        parts = λ told. subst (AreParts parts) (sym looks.nothing.files) (subst (IsBegun (g.S.Site.seen c.args.site.now)) c.in-Ok-Parts.field-0-is (first.begun (sym looks.calls.as_told ∙ told)));
      };
      settled = first.settled (λ is. absurd (no_fault _ _ is));
    }

pub returns-in-Ok-Parts : goal.returns-in-Ok-Parts
returns-in-Ok-Parts g c = opening_behind g.S.Site c.store_in_parts.result c.args.site.now c.begin.new.site c.store_in_parts.new.site c.begin.ensures.reads.run.looks (none_failed _ _ _ _ c.in-Ok-Parts.ensures.reads.run.counted) c.store_in_parts.ensures

pub returns-in-Err : goal.returns-in-Err
returns-in-Err g c = record {
  stands = λ told. tt;
  fresh = tt;
  holds = λ told. tt;
  not_store = λ told. c.of.ensures.misfit (reading is_present (g.S.Site.seen c.args.site.now)) (c.in-Err.ensures.reads.not_store told);
  failed = λ is. c.in-Err.ensures.reads.run.failed (ap Err (c.of.ensures.disk (same_fault _ _ is)));
  counted = stops_as (IsErrOf (Err c.in-Err.fault) (gates.Halt halts.Disk)) ⊥ ⊥ (IsErrOf (Err c.of.result) (faults.Halt halts.Disk)) ⊥ ⊥ _ _
      (λ is. ap Err (c.of.ensures.disk_alone (same_fault _ _ is))) (λ no. no) (λ no. no) c.in-Err.ensures.reads.run.counted;
  settled = λ other. c.in-Err.ensures.settled (λ is. other (ap Err (c.of.ensures.disk_alone (same_fault _ _ is))));
  looks = c.begin.ensures.reads.run.looks;
}
