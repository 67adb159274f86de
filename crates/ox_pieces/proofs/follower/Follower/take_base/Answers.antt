use Rattle.std.proofs.Common.{arith}
use Rattle.ox_pieces.proofs.HeadsOfPieces.{base_follows, base_taken}
use Rattle.ox_pieces.proofs.follower.Follower.take_base.Goals as goal

pub invariant_of-result : goal.invariant_of-result
invariant_of-result c =
    let i = c.self.inside in
    let made = rw c.in-Some.is at c.in_ok-standing.ensures in
    let later =
    base_follows i.tail.head c.head-head.result c.args.at.generation i.standing c.in-Some.standing c.args.body.now c.in-Some.checkpoint c.self.invariant.names c.head-head.ensures (omega (arith, c.if-at-head.false))
    made.0 made.1 in
    (later.0, record { version = c.self.invariant.version; names = later.1 })

pub returns-in-Some-clause-taken : goal.returns-in-Some-clause-taken
returns-in-Some-clause-taken c =
    let i = c.self.inside in
    let made = rw c.in-Some.is at c.in_ok-standing.ensures in
    base_taken c.args.self i.tail i.standing c.in-Some.standing c.head-head.result c.args.at c.args.profile c.args.depth c.args.body.now c.in-Some.checkpoint c.self.view_is c.self.invariant.names c.head-head.ensures
    (omega (arith, c.if-at-head.false)) c.if-profile-head.false c.if-depth-head.false made.0 made.1
