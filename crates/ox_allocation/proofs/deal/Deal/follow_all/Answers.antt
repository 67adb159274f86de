use Rattle.ox_allocation.proofs.Giving.{follows_end, follows_from, follows_next, follows_on}
use Rattle.ox_allocation.proofs.deal.Deal.follow_all.Goals as goal

pub loop-edict-init : goal.loop-edict-init
loop-edict-init c = follows_from c.args.etched c.args.self.now c.args.edicts.now

pub loop-edict-preserved : goal.loop-edict-preserved
loop-edict-preserved c =
    follows_on c.args.etched _ _ _ _ _ _ (follows_next _ _ _ c.args.edicts.now c.loop-edict.edict-index _ _ c.loop-edict-test.true c.loop-edict.invariant) c.in_ok-follow.ensures

pub returns : goal.returns
returns c = follows_end _ _ _ c.args.edicts.now c.loop-edict.edict-index _ c.loop-edict-test.false c.loop-edict.invariant
