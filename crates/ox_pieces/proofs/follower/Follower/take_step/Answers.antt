use Rattle.std.proofs.Common.{◌∙◌, sym}
use Rattle.ox_pieces.proofs.HeadsOfPieces.{names_step, step_taken}
use Rattle.ox_pieces.proofs.follower.Follower.take_step.Goals as goal

pub invariant_of-result : goal.invariant_of-result
invariant_of-result c =
    let i = c.self.inside in
    let made = rw c.in-Accepted.is at c.in_ok-standing.ensures in
    let framed = c.in_ok-framed-in-Accepted.ensures in
    ((framed.framed, framed.fits), record { version = c.self.invariant.version; names = names_step i.tail.head i.standing c.in-Accepted.standing c.args.payload.now c.self.invariant.names made })

pub returns-in_ok-framed-in-Accepted-clause-taken : goal.returns-in_ok-framed-in-Accepted-clause-taken
returns-in_ok-framed-in-Accepted-clause-taken c =
    let i = c.self.inside in
    let made = rw c.in-Accepted.is at c.in_ok-standing.ensures in
    step_taken c.args.self i.tail i.standing c.in-Accepted.standing c.args.at c.args.payload.now c.in_ok-framed-in-Accepted.framed c.self.view_is (sym c.stands_at.ensures ∙ c.if-not-stands_at.false)
    made c.in_ok-framed-in-Accepted.ensures.payload
