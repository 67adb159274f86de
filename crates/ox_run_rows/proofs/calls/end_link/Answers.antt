use Rattle.std.proofs.Common.{◌≡◌, ◌∙◌, ◌++◌, ◌∷◌, [], refl, ap, subst, List}
use Rattle.std.specs.Prelude.{IsTrue}
use Rattle.ox_outside.specs.Event.{Event, GaveUp, is_open}
use Rattle.ox_outside.proofs.Links.{still_open}
use Rattle.ox_memsite.specs.World.{log_of}
use Rattle.ox_run_rows.proofs.calls.end_link.Goals as goal

pub shut-requires : goal.shut-requires
shut-requires c =
    let link = c.args.link in
    let before = log_of c.args.site.now in
    let is : log_of c.give_up.new.self ≡ before ++ GaveUp link ∷ [] = cc c.give_up.ensures.logged in
    record {
      channel = λ log same.
          let here : log_of c.give_up.new.self ≡ log = cc same in
          subst (λ (l : List Event). IsTrue (is_open link l)) here (ap (is_open link) is ∙ still_open link before (GaveUp link ∷ []) refl c.requires.live.open_);
    }
