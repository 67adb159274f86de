use Rattle.std.proofs.Common.{◌≡◌, ◌∙◌, List, ap, arith, []}
use Rattle.std.specs.Prelude.{replicate}
use Rattle.ox_allocation.specs.Balances.{Balance}
use Rattle.ox_allocation.proofs.Handing.{one_more_hand}
use Rattle.ox_allocation.proofs.whole.empty_balances.Goals as goal

pub loop-init : goal.loop-init
loop-init c = c.in_ok-all.ensures.items

pub loop-preserved : goal.loop-preserved
loop-preserved c = rw c.in_ok-push.ensures.items (one_more_hand c.loop.counter c.loop.all.items c.empty.result c.empty.ensures c.loop.invariant)

pub returns : goal.returns
returns c =
    let all : c.loop.counter ≡ c.args.count = omega arith in
    c.loop.invariant ∙ ap (λ n. replicate {A = List Balance} n []) all
