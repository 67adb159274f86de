use Rattle.std.proofs.Common.{◌∙◌, ap, subst, sym}
use Rattle.std.proofs.lemmas.Result.{IfOk-weaker, err_from_is_err_and}
use Rattle.std.specs.Prelude.{Err, Ok}
use Rattle.ox_outside.proofs.Calls.{looks_then}
use Rattle.ox_outside.proofs.Counts.{no_fault_then, stops_at_none}
use Rattle.ox_outside.specs.Files.{Files}
use Rattle.ox_gated.specs.Tail.{Holds, Kept}
use Rattle.ox_files.specs.Stands.{stands}
use Rattle.ox_store.specs.Parts.{HasStood, NamesStack, StandsByAll}
use Rattle.ox_store.proofs.OldStores.{none_failed}
use Rattle.ox_store.proofs.PartsLemmas.{memory_misfit, memory_not_disk, settled_looking}
use Rattle.ox_store.proofs.StepLaws.{opening_fails, step_behind}
use Rattle.ox_store.proofs.parts.store_in_parts.Goals as goal

pub returns-in_err-body : goal.returns-in_err-body
returns-in_err-body g c =
    let p = err_from_is_err_and c.from_residual.result c.from_residual.ensures.1 in
    rw (p.1, p.2) (opening_fails g.S.Site c.in_err-body.field-0.0 c.args.site.now c.stand_on_body.new.site c.requires.settled c.in_err-body.ensures)

pub stand_on_records-requires : goal.stand_on_records-requires
stand_on_records-requires g c =
    let first = c.in_ok-body.ensures in
    let looks = c.stand_on_body.ensures.looks in
    let body = c.in_ok-body.body in record {
      stood = λ told. subst (λ (files : Files). HasStood body.walker body.standing files) (sym looks.nothing.files) (first.stood (sym looks.calls.as_told ∙ told));
      names = first.names;
    }

pub returns-in_err-all : goal.returns-in_err-all
returns-in_err-all g c =
    let fault = c.in_err-all.field-0.0 in
    let p = err_from_is_err_and c.from_residual-in_err-all.result c.from_residual-in_err-all.ensures.1 in
    let new = c.stand_on_records.new.site in
    rw (p.1, p.2) (opening_fails g.S.Site fault c.args.site.now new c.requires.settled
    (step_behind g.S.Site (λ files. StandsByAll g.S.Site new) NamesStack (Err fault) c.args.site.now c.stand_on_body.new.site new c.stand_on_body.ensures.looks (none_failed _ _ _ _ c.in_ok-body.ensures.counted) c.in_err-all.ensures))

pub returns : goal.returns
returns g c =
    let result = c.store_at_end.result in
    let made = c.store_at_end.ensures in
    let first = c.stand_on_body.ensures.looks in
    let then_ = c.stand_on_records.ensures.looks in
    let looks = looks_then g.S.Site c.args.site.now c.stand_on_body.new.site c.stand_on_records.new.site first then_ in
    let all = c.in_ok-all.ensures in record {
      stands = λ told.
          let is = all.stood (first.calls.as_told ∙ told) in
          IfOk-weaker result _ _ (λ store same. ap stands (sym looks.nothing.files) ∙ is.stands ∙ ap Ok (sym same)) made.stack;
      fresh = made.fresh;
      holds = λ told.
          let is = all.stood (first.calls.as_told ∙ told) in
          let held = is.holds (settled_looking g.S.Site c.args.site.now c.stand_on_records.new.site looks c.requires.settled) in
          IfOk-weaker result _ _ (λ store same. subst (λ (t : Kept). Holds g.S.Site t c.stand_on_records.new.site) (sym same) held) made.tail;
      not_store = λ told. memory_misfit (stands (g.S.Site.seen c.args.site.now)) result made.memory;
      failed = λ is. absurd (memory_not_disk result made.memory is);
      counted = stops_at_none _ _ _ _ _ (no_fault_then _ _ _ (none_failed _ _ _ _ c.in_ok-body.ensures.counted) (none_failed _ _ _ _ all.counted));
      settled = λ other. settled_looking g.S.Site c.args.site.now c.stand_on_records.new.site looks c.requires.settled;
      looks = looks;
    }
