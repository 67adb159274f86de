use Rattle.std.proofs.Common.{arith, ap, sym, subst, ◌<◌, length}
use Rattle.std.proofs.Common.{◌∙◌, false}
use Rattle.std.proofs.lemmas.List.{get_or_read}
use Rattle.ox_outside.specs.Event.{has_broken}
use Rattle.ox_memsite.specs.World.{World, log_of}
use Rattle.ox_memsite.proofs.site.MemSite.has_broken.Goals as goal

pub returns : goal.returns
returns c =
    let below = subst (λ (w : World). c.args.channel < length w.channels) (sym c.self.view_is) c.requires in
    get_or_read c.self.inside.broken.items _ _ (omega (arith, below, c.self.invariant.as_many)) c.index.ensures false ∙ c.self.invariant.flags c.args.channel below ∙ ap (λ (w : World). has_broken c.args.channel (log_of w)) c.self.view_is
