use Rattle.ox_app.proofs.Taking.{taken_moments, unmoved}
use Rattle.ox_follow.specs.Frame.{plain}
use Rattle.ox_app.proofs.follow.take.Goals as goal

pub returns-in-Ok-commit-clause-any_moment : goal.returns-in-Ok-commit-clause-any_moment
returns-in-Ok-commit-clause-any_moment g c = λ told stood.
    let taken = c.in-Ok.ensures.taken in
    taken_moments g.S.Site c.args.follower.mine (plain c.args.frame.now) c.in-Ok.taken.next c.args.site.now c.commit.new.site taken.takes (c.commit.ensures.any_moment told c.args.follower.mine stood taken.leads)

pub returns-in-Ok-clause-any_moment : goal.returns-in-Ok-clause-any_moment
returns-in-Ok-clause-any_moment g c = λ told stood.
    let taken = c.in-Ok.ensures.taken in
    taken_moments g.S.Site c.args.follower.mine (plain c.args.frame.now) c.in-Ok.taken.next c.args.site.now c.commit.new.site taken.takes (c.commit.ensures.any_moment told c.args.follower.mine stood taken.leads)

pub returns-in-Err-NotNext-clause-any_moment : goal.returns-in-Err-NotNext-clause-any_moment
returns-in-Err-NotNext-clause-any_moment g c = λ told stood. unmoved g.S.Site c.args.follower.mine (plain c.args.frame.now) g.met.S.Site.only_now c.args.site.now (c.requires.holds told).settled stood

pub returns-in-Err-NotFit-clause-any_moment : goal.returns-in-Err-NotFit-clause-any_moment
returns-in-Err-NotFit-clause-any_moment g c = λ told stood. unmoved g.S.Site c.args.follower.mine (plain c.args.frame.now) g.met.S.Site.only_now c.args.site.now (c.requires.holds told).settled stood

pub returns-in-Err-IsLevel-clause-any_moment : goal.returns-in-Err-IsLevel-clause-any_moment
returns-in-Err-IsLevel-clause-any_moment g c = λ told stood. unmoved g.S.Site c.args.follower.mine (plain c.args.frame.now) g.met.S.Site.only_now c.args.site.now (c.requires.holds told).settled stood

pub returns-clause-any_moment : goal.returns-clause-any_moment
returns-clause-any_moment g c = λ told stood. unmoved g.S.Site c.args.follower.mine (plain c.args.frame.now) g.met.S.Site.only_now c.args.site.now (c.requires.holds told).settled stood
