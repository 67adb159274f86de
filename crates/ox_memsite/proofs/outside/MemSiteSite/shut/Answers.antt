use Rattle.std.proofs.Common.{List, Some, ap, refl, subst, sym, [], ◌∷◌}
use Rattle.ox_outside.specs.Event.{Event, Shut}
use Rattle.ox_memsite.specs.World.{World}
use Rattle.ox_memsite.specs.declared.step.Step.TheVariants as steps
use Rattle.ox_memsite.proofs.Moves.{Noted, step_noted, noted_log, noted_files, noted_call}
use Rattle.ox_memsite.proofs.outside.MemSiteSite.shut.Goals as goal

pub returns-clause-logged : goal.returns-clause-logged
returns-clause-logged c =
    let noted = subst (λ (w : World). Noted c.args.self.now w (Shut c.args.channel ∷ [])) (sym c.shut.ensures) (step_noted c.args.self.now (steps.Shut c.args.channel) _ refl (λ which disk. refl)) in
    ap (λ (l : List Event). Some l) (noted_log _ _ _ noted)

pub returns-clause-files : goal.returns-clause-files
returns-clause-files c =
    let noted = subst (λ (w : World). Noted c.args.self.now w (Shut c.args.channel ∷ [])) (sym c.shut.ensures) (step_noted c.args.self.now (steps.Shut c.args.channel) _ refl (λ which disk. refl)) in
    noted_files _ _ _ noted

pub returns-clause-call : goal.returns-clause-call
returns-clause-call c =
    let noted = subst (λ (w : World). Noted c.args.self.now w (Shut c.args.channel ∷ [])) (sym c.shut.ensures) (step_noted c.args.self.now (steps.Shut c.args.channel) _ refl (λ which disk. refl)) in
    noted_call _ _ _ noted
