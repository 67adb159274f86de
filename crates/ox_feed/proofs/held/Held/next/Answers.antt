use Rattle.std.proofs.Common.{◌∙◌, le_trans, sym}
use Rattle.std.proofs.lemmas.Result.{err_from_is_err_and}
use Rattle.ox_outside.proofs.Counts.{no_fault_then}
use Rattle.ox_feed.specs.Held.{feed_of}
use Rattle.ox_feed.proofs.HearingOnlyTalks.{talks_on}
use Rattle.ox_feed.proofs.HearingsInTurn.{hearing_worked, waits_on, waits_in_vain}
use Rattle.ox_feed.proofs.held.Held.next.Goals as goal

-- what the hearings of the loop and a further one say together, where no line was cut off between
pub loop-line-preserved : goal.loop-line-preserved
loop-line-preserved g c =
    let kept = c.loop-line.invariant in
    let cuts = rw c.in_default.is at c.in_ok-line.ensures.cuts in
    let fewer = rw c.in_default.is at c.in_ok-line.ensures.fewer in (
      c.hear.ensures.sound,
      waits_on (feed_of c.args.self.now) (feed_of c.loop-line.self) (feed_of c.whole_line.new.self) (feed_of c.hear.new.self)
          (g.S.Site.log c.args.site.now) (g.S.Site.log c.loop-line.site) (g.S.Site.log c.hear.new.site)
          c.in_ok-line.ensures.heard c.in_ok-line.ensures.ended cuts.1 kept.1 c.hear.ensures.waits,
      le_trans (le_trans c.hear.ensures.left fewer) kept.2,
      talks_on g.S.Site
          (feed_of c.args.self.now) (feed_of c.loop-line.self) c.args.site.now c.loop-line.site c.hear.new.site (sym c.in_ok-line.ensures.ended ∙ c.if-self.false) kept.1 kept.3 c.hear.ensures.talks,
      no_fault_then _ _ _ kept.4 (hearing_worked c.in_ok-hear.field-0 _ _ c.in_ok-hear.ensures.counted),
    )

pub returns-in_err-hear-clause-told : goal.returns-in_err-hear-clause-told
returns-in_err-hear-clause-told g c =
    let p = err_from_is_err_and c.from_residual-in_err-hear.result c.from_residual-in_err-hear.ensures.1 in
    let kept = c.loop-line.invariant in
    let cuts = rw c.in_default.is at c.in_ok-line.ensures.cuts in
    waits_in_vain (feed_of c.args.self.now) (feed_of c.hear.new.self) c.from_residual-in_err-hear.result p.0
    (g.S.Site.log c.args.site.now) (g.S.Site.log c.hear.new.site) p.1
    (waits_on (feed_of c.args.self.now) (feed_of c.loop-line.self) (feed_of c.whole_line.new.self) (feed_of c.hear.new.self)
    (g.S.Site.log c.args.site.now) (g.S.Site.log c.loop-line.site) (g.S.Site.log c.hear.new.site)
    c.in_ok-line.ensures.heard c.in_ok-line.ensures.ended cuts.1 kept.1 c.hear.ensures.waits)

pub returns-in_err-hear-clause-talks : goal.returns-in_err-hear-clause-talks
returns-in_err-hear-clause-talks g c =
    let kept = c.loop-line.invariant in
    talks_on g.S.Site
    (feed_of c.args.self.now) (feed_of c.loop-line.self) c.args.site.now c.loop-line.site c.hear.new.site (sym c.in_ok-line.ensures.ended ∙ c.if-self.false) kept.1 kept.3 c.hear.ensures.talks
