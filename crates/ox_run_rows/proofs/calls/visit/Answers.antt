use Rattle.std.proofs.Common.{◌≡◌, ◌∙◌, ◌++◌, ◌∷◌, [], ℕ, Some, refl, ap, subst}
use Rattle.std.specs.Prelude.{Option, Result, Ok}
use Rattle.ox_outside.specs.Answers.{NeverNamed, IsOpenLink}
use Rattle.ox_outside.specs.Event.{Opened, has_given_up, door_events}
use Rattle.ox_outside.specs.Log.{Adds}
use Rattle.ox_outside.specs.declared.site.Failed.{Failed}
use Rattle.ox_outside.proofs.Links.{opened_whole}
use Rattle.ox_memsite.specs.World.{log_of}
use Rattle.ox_run_rows.proofs.calls.visit.Goals as goal

pub hear_all-heard-requires : goal.hear_all-heard-requires
hear_all-heard-requires g c =
    let link = c.in-Ok-Some.link in
    let old = log_of c.args.site.now in
    let new = log_of c.door.new.self in
    let is : c.door.result ≡ Ok (Some link) = c.in-Ok-Some.is ∙ ap Ok c.in-Ok-Some.field-0-is in
    let unnamed = subst (λ (r : Result (Option ℕ) Failed). NeverNamed r old) is (c.door.ensures.unnamed old refl) in
    let logged = subst (λ (r : Result (Option ℕ) Failed). Adds (door_events c.args.door r) (Some old) (Some new)) is c.door.ensures.logged in
    let same : new ≡ old ++ Opened link c.args.door ∷ [] = cc logged in
    record {
      live = record {
        open_ = subst (λ (r : Result (Option ℕ) Failed). IsOpenLink r new) is (c.door.ensures.open new refl);
        whole = ap (has_given_up link) same ∙ opened_whole link c.args.door old unnamed;
      };
    }
