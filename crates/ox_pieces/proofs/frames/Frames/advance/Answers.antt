use Rattle.std.proofs.Common.{◌∙◌, le_trans, sym}
use Rattle.ox_outside.proofs.Counts.{no_fault_then}
use Rattle.ox_feed.proofs.HearingsInTurn.{hearing_worked}
use Rattle.ox_pieces.proofs.FramesInTurn.{not_ready}
use Rattle.ox_pieces.proofs.Hearings.{advances_on, talks_on}
use Rattle.ox_pieces.proofs.frames.Frames.advance.Goals as goal

pub loop-self-preserved : goal.loop-self-preserved
loop-self-preserved g c =
    let kept = c.loop-self.invariant in
    let goes_on = (not_ready c.loop-self.self (sym c.is_ready.ensures.ready ∙ c.loop-self-test.true)).0 in (
      advances_on c.args.self.now c.loop-self.self c.hear.new.self (g.S.Site.log c.args.site.now) (g.S.Site.log c.loop-self.site) (g.S.Site.log c.hear.new.site) kept.0 c.hear.ensures.told,
      le_trans c.hear.ensures.left kept.1,
      talks_on g.S.Site c.args.self.now c.loop-self.self c.args.site.now c.loop-self.site c.hear.new.site goes_on kept.0 kept.2 c.hear.ensures.talks,
      no_fault_then _ _ _ kept.3 (hearing_worked c.in_ok-hear.field-0 _ _ c.in_ok-hear.ensures.counted),
    )

pub returns-in_err-hear-clause-told : goal.returns-in_err-hear-clause-told
returns-in_err-hear-clause-told g c =
    advances_on c.args.self.now c.loop-self.self c.hear.new.self (g.S.Site.log c.args.site.now) (g.S.Site.log c.loop-self.site) (g.S.Site.log c.hear.new.site)
    c.loop-self.invariant.0 c.hear.ensures.told

pub returns-in_err-hear-clause-talks : goal.returns-in_err-hear-clause-talks
returns-in_err-hear-clause-talks g c =
    let goes_on = (not_ready c.loop-self.self (sym c.is_ready.ensures.ready ∙ c.loop-self-test.true)).0 in
    talks_on g.S.Site c.args.self.now c.loop-self.self c.args.site.now c.loop-self.site c.hear.new.site goes_on c.loop-self.invariant.0 c.loop-self.invariant.2 c.hear.ensures.talks
