use Rattle.std.proofs.Common.{◌<◌, length, sym, subst}
use Rattle.std.specs.Prelude.{IsTrue}
use Rattle.ox_outside.specs.Event.{is_there}
use Rattle.ox_memsite.specs.World.{World, log_of}
use Rattle.ox_memsite.proofs.Kept.{there_below}
use Rattle.ox_memsite.proofs.site.MemSite.channel_is_kept.Goals as goal

pub returns : goal.returns
returns c = subst (λ (w : World). c.args.channel < length w.channels) c.self.view_is (
    there_below _ _ _ _ _ _ _ _ _ _ c.self.invariant c.args.channel (
    subst (λ (w : World). IsTrue (is_there c.args.channel (log_of w))) (sym c.self.view_is) c.requires))
