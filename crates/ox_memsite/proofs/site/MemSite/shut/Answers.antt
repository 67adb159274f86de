use Rattle.std.proofs.Common.{sym, subst, ◌≡◌, ◌++◌}
use Rattle.std.proofs.Common.{true}
use Rattle.ox_outside.specs.Event.{is_open}
use Rattle.ox_memsite.specs.World.{World, log_of, events_of}
use Rattle.ox_memsite.proofs.Kept.{kept_shut, spare_shut, open_there, open_unshut, there_below}
use Rattle.ox_memsite.proofs.site.MemSite.shut.Goals as goal

pub push-requires : goal.push-requires
push-requires c =
    let is_open_ = subst (λ (w : World). is_open c.args.channel (log_of w) ≡ true) (sym c.self.view_is) c.requires in
    let once = open_unshut c.args.channel (events_of c.self.inside.past.items ++ events_of c.self.inside.steps.filled) is_open_ in
    let below = there_below _ _ _ _ _ _ _ _ _ _ c.self.invariant c.args.channel (open_there c.args.channel (events_of c.self.inside.past.items ++ events_of c.self.inside.steps.filled) is_open_) in
    spare_shut _ _ _ _ _ _ _ _ _ _ c.self.invariant c.args.channel below once

pub invariant_of-self : goal.invariant_of-self
invariant_of-self c =
    let is_open_ = subst (λ (w : World). is_open c.args.channel (log_of w) ≡ true) (sym c.self.view_is) c.requires in
    let once = open_unshut c.args.channel (events_of c.self.inside.past.items ++ events_of c.self.inside.steps.filled) is_open_ in
    let below = there_below _ _ _ _ _ _ _ _ _ _ c.self.invariant c.args.channel (open_there c.args.channel (events_of c.self.inside.past.items ++ events_of c.self.inside.steps.filled) is_open_) in
    kept_shut _ _ _ _ _ _ _ _ _ _ c.self.invariant c.args.channel _ _ below once c.push.ensures.filled c.push.ensures.spare
