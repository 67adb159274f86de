use Rattle.std.proofs.Common.{sym, subst, ◌≡◌, ◌++◌}
use Rattle.std.proofs.Common.{true, false}
use Rattle.ox_outside.specs.Event.{is_open, has_given_up}
use Rattle.ox_memsite.specs.World.{World, log_of, events_of}
use Rattle.ox_memsite.proofs.Kept.{kept_gave_up, spare_gave_up, open_there, there_below}
use Rattle.ox_memsite.proofs.site.MemSite.give_up.Goals as goal

pub push-requires : goal.push-requires
push-requires c =
    let is_open_ = subst (λ (w : World). is_open c.args.channel (log_of w) ≡ true) (sym c.self.view_is) c.requires.channel in
    let once = subst (λ (w : World). has_given_up c.args.channel (log_of w) ≡ false) (sym c.self.view_is) c.requires.once in
    let below = there_below _ _ _ _ _ _ _ _ _ _ c.self.invariant c.args.channel (open_there c.args.channel (events_of c.self.inside.past.items ++ events_of c.self.inside.steps.filled) is_open_) in
    spare_gave_up _ _ _ _ _ _ _ _ _ _ c.self.invariant c.args.channel below once

pub invariant_of-self : goal.invariant_of-self
invariant_of-self c =
    let is_open_ = subst (λ (w : World). is_open c.args.channel (log_of w) ≡ true) (sym c.self.view_is) c.requires.channel in
    let once = subst (λ (w : World). has_given_up c.args.channel (log_of w) ≡ false) (sym c.self.view_is) c.requires.once in
    let below = there_below _ _ _ _ _ _ _ _ _ _ c.self.invariant c.args.channel (open_there c.args.channel (events_of c.self.inside.past.items ++ events_of c.self.inside.steps.filled) is_open_) in
    kept_gave_up _ _ _ _ _ _ _ _ _ _ c.self.invariant c.args.channel _ _ below once c.push.ensures.filled c.push.ensures.spare
