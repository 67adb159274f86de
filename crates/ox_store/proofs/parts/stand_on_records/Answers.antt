use Rattle.std.proofs.Common.{◌∙◌, subst, sym}
use Rattle.std.proofs.lemmas.Result.{err_from_is_err_and}
use Rattle.std.specs.Prelude.{Ok, Err}
use Rattle.ox_outside.proofs.Calls.{looks_none, looks_then}
use Rattle.ox_outside.proofs.Counts.{no_fault_then, no_fault_yet, stops_at_none}
use Rattle.ox_outside.specs.Files.{Files}
use Rattle.ox_store.specs.Parts.{HasStood, NamesSoFar, NamesStack, StandsByAll, StandsSoFar}
use Rattle.ox_store.proofs.Exits.{no_fault}
use Rattle.ox_store.proofs.OldStores.{none_failed}
use Rattle.ox_store.proofs.PartsLemmas.{memory_alone}
use Rattle.ox_store.proofs.StepLaws.{step_behind, step_fails}
use Rattle.ox_store.proofs.parts.stand_on_records.Goals as goal

pub loop-init : goal.loop-init
loop-init g c = record {
  looks = looks_none g.S.Site g.met.S.Site.only_now c.args.site.now;
  counted = no_fault_yet (g.S.Site.counts c.args.site.now);
  stood = c.requires.stood;
  names = c.requires.names;
}

pub next_step-requires : goal.next_step-requires
next_step-requires g c =
    let since = c.loop.invariant in record {
      stood = λ told. subst (λ (files : Files). HasStood c.loop.stood.walker c.loop.stood.standing files) (sym since.looks.nothing.files) (since.stood (sym since.looks.calls.as_told ∙ told));
      names = since.names;
    }

pub returns-in_err-next : goal.returns-in_err-next
returns-in_err-next g c =
    let since = c.loop.invariant in
    let fault = c.in_err-next.field-0.0 in
    let p = err_from_is_err_and c.from_residual.result c.from_residual.ensures.1 in
    let new = c.next_step.new.site in
    rw (p.1, p.2) (step_behind g.S.Site (λ files. StandsByAll g.S.Site new) NamesStack (Err fault) c.args.site.now c.loop.site new since.looks since.counted
    (step_fails g.S.Site (StandsByAll g.S.Site new) NamesStack fault c.loop.site new c.in_err-next.ensures))

pub returns-in-All : goal.returns-in-All
returns-in-All g c =
    let since = c.loop.invariant in
    let next = c.in_ok-next.ensures in
    let new = c.next_step.new.site in
    step_behind g.S.Site (λ files. StandsByAll g.S.Site new) NamesStack (Ok c.in-All.all) c.args.site.now c.loop.site new since.looks since.counted (record {
      stood = λ told. subst (StandsSoFar g.S.Site new) c.in-All.is (next.stood told);
      names = subst NamesSoFar c.in-All.is next.names;
      not_store = λ told. tt;
      failed = λ is. absurd (no_fault _ _ is);
      counted = stops_at_none _ _ _ _ _ (none_failed _ _ _ _ next.counted);
      looks = next.looks;
    })

pub loop-preserved : goal.loop-preserved
loop-preserved g c =
    let since = c.loop.invariant in
    let next = c.in_ok-next.ensures in
    let looks = c.next_step.ensures.looks in
    let stood = c.in-On.next in record {
      looks = looks_then g.S.Site c.args.site.now c.loop.site c.next_step.new.site since.looks looks;
      counted = no_fault_then _ _ _ since.counted (none_failed _ _ _ _ next.counted);
      stood = λ told. subst (λ (files : Files). HasStood stood.walker stood.standing files) (looks.nothing.files ∙ since.looks.nothing.files) (subst (StandsSoFar g.S.Site c.next_step.new.site) c.in-On.is (next.stood (since.looks.calls.as_told ∙ told)));
      names = subst NamesSoFar c.in-On.is next.names;
    }

pub returns : goal.returns
returns g c =
    let since = c.loop.invariant in record {
      stood = λ told. tt;
      names = tt;
      not_store = λ told. tt;
      failed = λ is. absurd (memory_alone is);
      counted = stops_at_none _ _ _ _ _ since.counted;
      looks = since.looks;
    }
