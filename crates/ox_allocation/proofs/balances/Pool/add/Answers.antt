use Rattle.std.proofs.Common.{◌+◌, ◌^◌, ◌<◌, List, subst, sym}
use Rattle.ox_allocation.specs.Kept.{runes_in}
use Rattle.ox_allocation.specs.Balances.{Balance, amount_in}
use Rattle.ox_allocation.proofs.BalanceLemmas.{pool_still}
use Rattle.ox_allocation.proofs.balances.Pool.add.Goals as goal

pub invariant_of-self : goal.invariant_of-self
invariant_of-self c =
    let sum = subst (λ (pool : List Balance). amount_in pool c.args.id + c.args.amount < 2 ^ 128) (sym c.self.view_is) c.requires in
    pool_still c.add.result (runes_in c.self.inside.kept) (runes_in c.add.new.self) c.args.id c.args.amount c.self.invariant sum c.add.ensures.ok c.add.ensures.err
