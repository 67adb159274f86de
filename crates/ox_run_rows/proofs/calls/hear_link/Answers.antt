use Rattle.std.proofs.Common.{◌≡◌, ◌∙◌, ◌++◌, ap}
use Rattle.ox_outside.specs.Event.{is_open, has_given_up, hear_events}
use Rattle.ox_outside.proofs.Links.{still_open, still_whole, hear_shuts_none, hear_gives_none_up}
use Rattle.ox_memsite.specs.World.{log_of}
use Rattle.ox_run_rows.proofs.calls.hear_link.Goals as goal

pub returns : goal.returns
returns c =
    let link = c.args.link in
    let old = log_of c.args.site.now in
    let is : log_of c.hear.new.self ≡ old ++ hear_events link c.hear.new.into c.hear.result old = cc c.hear.ensures.logged in
    record {
      live = record {
        open_ = ap (is_open link) is ∙ still_open link old _ (hear_shuts_none link link c.hear.new.into c.hear.result old) c.requires.live.open_;
        whole = ap (has_given_up link) is ∙ still_whole link old _ (hear_gives_none_up link link c.hear.new.into c.hear.result old) c.requires.live.whole;
      };
    }
