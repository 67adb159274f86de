use Rattle.std.proofs.Common.{◌≡◌, ◌∙◌, List, ℕ, inl, inr, refl, subst}
use Rattle.ox_outside.proofs.Counts.{no_fault_yet, stops_as, stops_at_none}
use Rattle.ox_outside.proofs.OnlyTalks.{talks_none, talks_weaker}
use Rattle.ox_app.specs.Fold.{Anything}
use Rattle.ox_app.specs.Show.{Says}
use Rattle.ox_app.specs.declared.status.Status.TheVariants as ends
use Rattle.ox_app.proofs.migrate.explain_old.Goals as goal

pub returns-in-Ok : goal.returns-in-Ok
returns-in-Ok g c = record {
  says = inl (refl, subst (λ (l : List ℕ). Says g.S.Site l c.args.site.now c.say.new.site) (c.as_slice.ensures ∙ c.in-Ok.ensures) c.say.ensures.says);
  counted = stops_as ⊥ ⊥ (Unit {0}) ⊥ ⊥ (ends.OldCommand ≡ ends.OldCommand) _ _ (λ no. no) (λ no. no) (λ shown. refl) c.say.ensures.counted;
  talks = talks_weaker g.S.Site _ Anything c.args.site.now c.say.new.site (λ x p. tt) c.say.ensures.talks;
}

pub returns-in-Err : goal.returns-in-Err
returns-in-Err g c = record {
  says = inr (refl, refl);
  counted = stops_at_none _ _ _ _ _ (no_fault_yet (g.S.Site.counts c.args.site.now));
  talks = talks_none g.S.Site g.met.S.Site.only_now g.met.S.Site.logs_now Anything c.args.site.now tt;
}
