use Rattle.std.proofs.Common.{arith, ap, length}
use Rattle.ox_turns.specs.Places.{Places}
use Rattle.ox_turns.proofs.Rotating.{none_free}
use Rattle.ox_turns.proofs.turns.Turns.free.Goals as goal

pub returns : goal.returns
returns c = none_free c.args.self.now.slots (λ below less.
    c.loop-at.invariant below (omega (arith, less, c.loop-at-test.false, c.self.invariant.0, c.self.inside.slots.ok.0, ap (λ (p : Places). length p.slots) c.self.view_is)))
