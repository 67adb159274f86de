use Rattle.std.proofs.Common.{◌∙◌, ap, subst, sym}
use Rattle.std.proofs.lemmas.Result.{err_from_is_err_and}
use Rattle.std.specs.Prelude.{IsErrOf}
use Rattle.ox_outside.proofs.Counts.{stops_as, stops_at_none}
use Rattle.ox_gated.specs.Layout.{layout_of}
use Rattle.ox_gated.specs.Parts.{AreParts, is_intact_in}
use Rattle.ox_gated.specs.declared.fault.Halt.TheVariants as halts
use Rattle.ox_gated.specs.declared.head.Head.{Head}
use Rattle.ox_store.specs.Parts.{NamesStack, StandsUpTo}
use Rattle.ox_store.specs.declared.fault.OpenFault.TheVariants as opens
use Rattle.ox_store.proofs.Exits.{no_value, same_fault}
use Rattle.ox_store.proofs.OldStores.{none_failed}
use Rattle.ox_store.proofs.PartsLemmas.{halt_passed, halt_passed_so, misfit, misfit_of_sum}
use Rattle.ox_store.proofs.StepLaws.{step_behind}
use Rattle.ox_store.proofs.parts.stand_on_body.Goals as goal

pub returns-in_err-is_intact : goal.returns-in_err-is_intact
returns-in_err-is_intact g c =
    let left = c.from_residual.result in
    let halt = c.in_err-is_intact.field-0.0 in
    let p = err_from_is_err_and left c.from_residual.ensures.1 in record {
      stood = λ told. no_value left p.0 _ p.1;
      names = no_value left p.0 _ p.1;
      not_store = λ told. rw (p.1, p.2) tt;
      failed = λ is. c.in_err-is_intact.ensures.failed (halt_passed left p.0 halt p.1 p.2 is);
      counted = stops_as _ ⊥ ⊥ (IsErrOf left (opens.Halt halts.Disk)) ⊥ ⊥ _ _ (λ is. halt_passed_so left p.0 halt p.1 p.2 is) (λ no. no) (λ no. no) c.in_err-is_intact.ensures.counted;
      looks = c.is_intact.ensures.looks;
    }

pub returns-then-not-branch : goal.returns-then-not-branch
returns-then-not-branch g c =
    let parts = c.args.parts in
    let files = g.S.Site.seen c.args.site.now in
    let of_head = c.head-head.ensures.head in record {
      stood = λ told. tt;
      names = tt;
      not_store = λ told.
          misfit_of_sum files parts c.body_at.result (c.requires.may.parts told) (sym (sym c.if-not-branch.true ∙ c.in_ok-is_intact.ensures.intact told)) (ap (λ (h : Head). h.version) (sym of_head) ∙ c.head-head.ensures.version)
          (c.body_at.ensures ∙ ap (λ (h : Head). (layout_of h.version).body_at) of_head)
          ∙ ap (λ (f : _). misfit f c.body_at.result) (sym c.file.ensures);
      failed = λ is. absurd (cc (same_fault _ _ is));
      counted = stops_at_none _ _ _ _ _ (none_failed _ _ _ _ c.in_ok-is_intact.ensures.counted);
      looks = c.is_intact.ensures.looks;
    }

pub stand_on_rows-requires : goal.stand_on_rows-requires
stand_on_rows-requires g c =
    let looks = c.is_intact.ensures.looks in record {
      may = record {
        most = c.requires.may.most;
        unread = c.requires.may.unread;
        parts = λ told. subst (AreParts c.args.parts) (sym looks.nothing.files) (c.requires.may.parts (sym looks.calls.as_told ∙ told));
      };
      intact = λ told. ap (is_intact_in c.args.parts) looks.nothing.files ∙ sym (c.in_ok-is_intact.ensures.intact (sym looks.calls.as_told ∙ told)) ∙ c.if-not-branch.false;
    }

pub returns : goal.returns
returns g c = step_behind g.S.Site StandsUpTo NamesStack c.stand_on_rows.result c.args.site.now c.is_intact.new.site c.stand_on_rows.new.site c.is_intact.ensures.looks (none_failed _ _ _ _ c.in_ok-is_intact.ensures.counted) c.stand_on_rows.ensures
