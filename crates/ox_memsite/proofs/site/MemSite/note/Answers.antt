use Rattle.std.proofs.Common.{arith, refl, sym, subst, length}
use Rattle.ox_memsite.specs.Plain.{IsPlain}
use Rattle.ox_memsite.specs.World.{World}
use Rattle.ox_memsite.proofs.Kept.{kept_plain, pushed}
use Rattle.ox_memsite.proofs.site.MemSite.note.Goals as goal

pub invariant_of-self-2 : goal.invariant_of-self-2
invariant_of-self-2 c =
    let plain = subst (λ (w : World). IsPlain (length w.channels) c.args.step) (sym c.self.view_is) c.requires in
    kept_plain _ _ _ _ _ _ _ _ _ _ c.self.invariant c.args.step _ _ plain (pushed _ _ _ _ _ c.push.ensures.filled c.in_ok-make_room.ensures.steps refl) (omega (arith, c.push.ensures.spare, c.in_ok-make_room.ensures.ok))
