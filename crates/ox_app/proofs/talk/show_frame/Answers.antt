use Rattle.std.proofs.Common.{◌∙◌, ap, refl, sym}
use Rattle.ox_follow.specs.Frame.{plain, spelled}
use Rattle.ox_follow.specs.declared.frame.Frame.{Frame as FrameValue}
use Rattle.ox_app.proofs.ShownParts.{fronts_as, shows_as}
use Rattle.ox_app.proofs.talk.show_frame.Goals as goal

pub returns-in-Base : goal.returns-in-Base
returns-in-Base g c =
    let same = c.base_front.ensures c.in-Base.body.now refl ∙ ap (λ (f : FrameValue). spelled (plain f)) (sym c.in-Base.is) in record {
      told = shows_as _ _ same c.show_both.result (g.S.Site.log c.args.site.now) (g.S.Site.log c.show_both.new.site) c.show_both.ensures.told;
      failed = c.show_both.ensures.failed;
      counted = c.show_both.ensures.counted;
      talks = fronts_as _ _ same g.S.Site c.args.site.now c.show_both.new.site c.show_both.ensures.talks;
    }

pub returns-in-Step : goal.returns-in-Step
returns-in-Step g c =
    let same = c.step_front.ensures c.in-Step.payload.now refl ∙ ap (λ (f : FrameValue). spelled (plain f)) (sym c.in-Step.is) in record {
      told = shows_as _ _ same c.show_both-in-Step.result (g.S.Site.log c.args.site.now) (g.S.Site.log c.show_both-in-Step.new.site) c.show_both-in-Step.ensures.told;
      failed = c.show_both-in-Step.ensures.failed;
      counted = c.show_both-in-Step.ensures.counted;
      talks = fronts_as _ _ same g.S.Site c.args.site.now c.show_both-in-Step.new.site c.show_both-in-Step.ensures.talks;
    }

pub returns-in-Have : goal.returns-in-Have
returns-in-Have g c =
    let same = c.have_front.ensures ∙ ap (λ (f : FrameValue). spelled (plain f)) (sym c.in-Have.is) in record {
      told = shows_as _ _ same c.show_all.result (g.S.Site.log c.args.site.now) (g.S.Site.log c.show_all.new.site) c.show_all.ensures.told;
      failed = c.show_all.ensures.failed;
      counted = c.show_all.ensures.counted;
      talks = fronts_as _ _ same g.S.Site c.args.site.now c.show_all.new.site c.show_all.ensures.talks;
    }

pub returns-in-Level : goal.returns-in-Level
returns-in-Level g c =
    let same = c.level_front.ensures ∙ ap (λ (f : FrameValue). spelled (plain f)) (sym c.in-Level.is) in record {
      told = shows_as _ _ same c.show_all-in-Level.result (g.S.Site.log c.args.site.now) (g.S.Site.log c.show_all-in-Level.new.site) c.show_all-in-Level.ensures.told;
      failed = c.show_all-in-Level.ensures.failed;
      counted = c.show_all-in-Level.ensures.counted;
      talks = fronts_as _ _ same g.S.Site c.args.site.now c.show_all-in-Level.new.site c.show_all-in-Level.ensures.talks;
    }
