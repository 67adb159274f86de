use Rattle.std.proofs.Common.{◌≡◌, ◌∙◌, List, ℕ, inl, inr, refl, subst, sym}
use Rattle.ox_outside.proofs.Counts.{no_fault_yet, stops_as, stops_at_none}
use Rattle.ox_outside.proofs.OnlyTalks.{talks_none, talks_weaker}
use Rattle.ox_outside.specs.Runs.{OnlyTalks}
use Rattle.ox_gated.specs.declared.fault.Halt.TheVariants as halts
use Rattle.ox_gated.specs.declared.fault.Halt.{Halt}
use Rattle.ox_store.specs.declared.fault.OpenFault.{OpenFault}
use Rattle.ox_store.specs.declared.fault.OpenFault.TheVariants as opens
use Rattle.ox_app.specs.Show.{Says}
use Rattle.ox_app.specs.Status.{IsUnopened, halt_status}
use Rattle.ox_app.specs.Unopened.{LogsUnopened, UnopenedAs}
use Rattle.ox_app.specs.declared.status.Status.TheVariants as ends
use Rattle.ox_app.proofs.unopened.explain.Goals as goal

pub returns-in-Ok : goal.returns-in-Ok
returns-in-Ok g c = record {
  status = inl refl;
  says =
      subst (λ (f : OpenFault). UnopenedAs g.S.Site f ends.NotStore c.args.site.now c.say.new.site) (sym c.in-NotStore.is)
      (inl (refl, subst (λ (l : List ℕ). Says g.S.Site l c.args.site.now c.say.new.site) (c.as_slice.ensures ∙ c.in-Ok.ensures) c.say.ensures.says));
  counted = stops_as ⊥ ⊥ (Unit {0}) ⊥ ⊥ (ends.NotStore ≡ ends.NotStore) _ _ (λ no. no) (λ no. no) (λ shown. refl) c.say.ensures.counted;
  talks =
      subst (λ (f : OpenFault). OnlyTalks g.S.Site (LogsUnopened f) c.args.site.now c.say.new.site) (sym c.in-NotStore.is)
      (talks_weaker g.S.Site _ (LogsUnopened (opens.NotStore c.in-NotStore.file c.in-NotStore.at)) c.args.site.now c.say.new.site (λ x p. tt) c.say.ensures.talks);
}

pub returns-in-Err : goal.returns-in-Err
returns-in-Err g c = record {
  status = inr (inr refl);
  says =
      subst (λ (f : OpenFault). UnopenedAs g.S.Site f ends.Memory c.args.site.now c.args.site.now) (sym c.in-NotStore.is)
      (inr (refl, refl));
  counted = stops_at_none _ _ _ _ _ (no_fault_yet (g.S.Site.counts c.args.site.now));
  talks =
      subst (λ (f : OpenFault). OnlyTalks g.S.Site (LogsUnopened f) c.args.site.now c.args.site.now) (sym c.in-NotStore.is)
      (talks_none g.S.Site g.met.S.Site.only_now g.met.S.Site.logs_now (LogsUnopened (opens.NotStore c.in-NotStore.file c.in-NotStore.at)) c.args.site.now tt);
}

halted : (halt : Halt) → IsUnopened (halt_status halt)
halted halts.Disk = inr (inl refl)
halted halts.Memory = inr (inr refl)

pub returns-in-Halt : goal.returns-in-Halt
returns-in-Halt g c = record {
  status = subst IsUnopened (sym c.halted.ensures) (halted c.in-Halt.halt);
  says =
      subst (λ (f : OpenFault). UnopenedAs g.S.Site f c.halted.result c.args.site.now c.args.site.now) (sym c.in-Halt.is)
      ((c.halted.ensures, refl));
  counted = stops_at_none _ _ _ _ _ (no_fault_yet (g.S.Site.counts c.args.site.now));
  talks =
      subst (λ (f : OpenFault). OnlyTalks g.S.Site (LogsUnopened f) c.args.site.now c.args.site.now) (sym c.in-Halt.is)
      (talks_none g.S.Site g.met.S.Site.only_now g.met.S.Site.logs_now (LogsUnopened (opens.Halt c.in-Halt.halt)) c.args.site.now refl);
}
