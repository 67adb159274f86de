use Rattle.std.proofs.Common.{sym, subst, ◌≡◌, ◌<◌, length}
use Rattle.std.proofs.Common.{false}
use Rattle.ox_outside.specs.Event.{has_broken}
use Rattle.ox_memsite.specs.World.{World, log_of}
use Rattle.ox_memsite.proofs.Kept.{kept_break, spare_break}
use Rattle.ox_memsite.proofs.site.MemSite.note_break.Goals as goal

pub push-requires : goal.push-requires
push-requires c =
    let below = subst (λ (w : World). c.args.channel < length w.channels) (sym c.self.view_is) c.requires.known in
    let whole = subst (λ (w : World). has_broken c.args.channel (log_of w) ≡ false) (sym c.self.view_is) c.requires.whole in
    spare_break _ _ _ _ _ _ _ _ _ _ c.self.invariant c.args.channel below whole

pub invariant_of-self : goal.invariant_of-self
invariant_of-self c =
    let below = subst (λ (w : World). c.args.channel < length w.channels) (sym c.self.view_is) c.requires.known in
    let whole = subst (λ (w : World). has_broken c.args.channel (log_of w) ≡ false) (sym c.self.view_is) c.requires.whole in
    kept_break _ _ _ _ _ _ _ _ _ _ c.self.invariant c.args.channel _ _ below whole c.push.ensures.filled c.push.ensures.spare
