use Rattle.std.proofs.Common.{◌≡◌, inl, inr, refl}
use Rattle.ox_outside.specs.Counts.{IsFailure}
use Rattle.ox_outside.proofs.Counts.{stops_as, stops_at_none}
use Rattle.ox_app.specs.declared.status.Status.TheVariants as ends
use Rattle.ox_app.proofs.Images.{reply_front, reply_whole, show_undone}
use Rattle.ox_app.proofs.Statuses.{ends_apart}
use Rattle.ox_app.proofs.Stops.{all_shown}
use Rattle.ox_app.proofs.show.tell.Goals as goal

pub returns-in-Ok : goal.returns-in-Ok
returns-in-Ok g c = record {
  shows = reply_whole _ (g.S.Site.log c.args.site.now) (g.S.Site.log c.args.site.now) (g.S.Site.log c.show_all.new.site) refl c.in-Ok.ensures.told;
  status = inl refl;
  failed = λ is. absurd (ends_apart ends.Done ends.ShowFault refl is);
  counted = stops_at_none _ _ _ _ _ (all_shown _ _ c.in-Ok.ensures.counted);
  talks = c.show_all.ensures.talks;
}

pub returns-in-Err : goal.returns-in-Err
returns-in-Err g c = record {
  shows = reply_front _ ends.ShowFault (g.S.Site.log c.args.site.now) (g.S.Site.log c.args.site.now) (g.S.Site.log c.show_all.new.site) show_undone refl c.in-Err.ensures.told;
  status = inr refl;
  failed = λ is. c.in-Err.ensures.failed;
  counted = stops_as ⊥ ⊥ (IsFailure c.show_all.result) ⊥ ⊥ (ends.ShowFault ≡ ends.ShowFault) _ _ (λ no. no) (λ no. no) (λ failed. refl) c.show_all.ensures.counted;
  talks = c.show_all.ensures.talks;
}
