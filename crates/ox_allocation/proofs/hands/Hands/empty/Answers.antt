use Rattle.std.proofs.Common.{◌≡◌, ◌∙◌, List, [], length, ap, arith}
use Rattle.std.specs.Prelude.{replicate}
use Rattle.ox_allocation.specs.Balances.{Balance}
use Rattle.ox_allocation.proofs.Handing.{one_more_hand}
use Rattle.ox_allocation.proofs.hands.Hands.empty.Goals as goal

pub loop-init : goal.loop-init
loop-init c = c.in_ok-given.ensures.items

pub loop-preserved : goal.loop-preserved
loop-preserved c = rw c.in_ok-push.ensures.items (one_more_hand c.loop.counter c.loop.given.items c.new.result c.new.ensures c.loop.invariant)

pub returns : goal.returns
returns c =
    let all : c.loop.counter ≡ length c.args.outputs.now = omega arith in
    let given : c.loop.given.items ≡ replicate (length c.args.outputs.now) [] = c.loop.invariant ∙ ap (λ n. replicate {A = List Balance} n []) all in
    λ i. record { outputs = c.args.outputs.now; hands = record { given = given i; burned = c.new-2.ensures i } }
