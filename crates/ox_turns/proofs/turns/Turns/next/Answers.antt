use Rattle.std.proofs.Common.{arith, ap, length}
use Rattle.ox_turns.specs.Places.{Places}
use Rattle.ox_turns.proofs.Rotating.{somebody}
use Rattle.ox_turns.proofs.turns.Turns.next.Goals as goal

pub returns-in-None-first_from-clause-next : goal.returns-in-None-first_from-clause-next
returns-in-None-first_from-clause-next c =
    absurd (somebody c.args.self.now.slots 0 (omega (arith, c.self.invariant.0, c.self.inside.slots.ok.0, ap (λ (p : Places). length p.slots) c.self.view_is)) c.in-None-first_from.ensures.first)
