use Rattle.ox_outside.proofs.Log.{grows_then}
use Rattle.ox_outside.proofs.OnlyTalks.{talks_then, talks_weaker}
use Rattle.std.specs.Prelude.{◌++◌}
use Rattle.ox_app.specs.Show.{Shows, ShowsFront, ShowsWhole}
use Rattle.ox_app.proofs.ShownParts.{front_of_both, then_front, then_shows}
use Rattle.ox_app.proofs.talk.show_both.Goals as goal

pub returns-in_err-show_all-clause-talks : goal.returns-in_err-show_all-clause-talks
returns-in_err-show_all-clause-talks g c =
    talks_weaker g.S.Site (ShowsFront c.args.first.now) (ShowsFront (c.args.first.now ++ c.args.behind.now)) c.args.site.now c.show_all.new.site (front_of_both c.args.first.now c.args.behind.now) c.show_all.ensures.talks

pub returns-clause-told : goal.returns-clause-told
returns-clause-told g c =
    grows_then (ShowsWhole c.args.first.now) (Shows c.args.behind.now c.show_all-2.result) (Shows (c.args.first.now ++ c.args.behind.now) c.show_all-2.result)
    (g.S.Site.log c.args.site.now) (g.S.Site.log c.show_all.new.site) (g.S.Site.log c.show_all-2.new.site)
    (then_shows c.args.first.now c.args.behind.now c.show_all-2.result) c.in_ok-show_all.ensures.told c.show_all-2.ensures.told

pub returns-clause-talks : goal.returns-clause-talks
returns-clause-talks g c =
    talks_then g.S.Site (ShowsFront c.args.first.now) (ShowsWhole c.args.first.now) (ShowsFront c.args.behind.now) (ShowsFront (c.args.first.now ++ c.args.behind.now))
    c.args.site.now c.show_all.new.site c.show_all-2.new.site (front_of_both c.args.first.now c.args.behind.now) (then_front c.args.first.now c.args.behind.now)
    c.show_all.ensures.talks c.in_ok-show_all.ensures.told c.show_all-2.ensures.talks
