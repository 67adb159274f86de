use Rattle.std.proofs.Common.{arith, ap, List, ℕ}
use Rattle.ox_memsite.proofs.Kept.{kept_write, kept_same, pushed}
use Rattle.ox_memsite.specs.declared.step.Step.TheVariants.{Wrote}
use Rattle.ox_memsite.proofs.site.MemSite.note_write.Goals as goal

pub invariant_of-self-2 : goal.invariant_of-self-2
invariant_of-self-2 c =
    kept_write _ _ _ _ _ _ _ _ _ _ c.self.invariant c.args.file c.args.at c.args.bytes.now _ _ _ _ (pushed _ _ _ _ _ c.push.ensures.filled c.in_ok-make_room.ensures.steps (ap (λ (l : List ℕ). Wrote c.args.file c.args.at l) c.in_ok-copy.ensures)) c.in_ok-write_one.ensures.a c.in_ok-write_one.ensures.b (omega (arith, c.push.ensures.spare, c.in_ok-make_room.ensures.ok))

pub invariant_of-self-in_err-write_one : goal.invariant_of-self-in_err-write_one
invariant_of-self-in_err-write_one c =
    kept_same _ _ _ _ _ _ _ _ _ _ c.self.invariant _ _ _ _ _ c.in_err-write_one.ensures.err.0 c.in_err-write_one.ensures.err.1 c.in_ok-make_room.ensures.steps (omega (arith, c.in_ok-make_room.ensures.ok)) c.self.invariant.within
