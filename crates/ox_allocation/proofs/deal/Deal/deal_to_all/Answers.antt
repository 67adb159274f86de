use Rattle.std.proofs.Common.{arith, ◌<◌, ◌≡◌, length, subst, sym}
use Rattle.std.specs.List.{AllByRecursion}
use Rattle.ox_allocation.specs.Balances.{amount_in}
use Rattle.ox_allocation.specs.Dealing.{Stage}
use Rattle.ox_allocation.proofs.Holders.{holders_within}
use Rattle.ox_allocation.proofs.Owing.{gives_none_left}
use Rattle.ox_allocation.proofs.deal.Deal.deal_to_all.Goals as goal

pub deal-requires : goal.deal-requires
deal-requires c =
    subst (λ (stage : Stage). AllByRecursion (λ place. place < length stage.outputs) c.self.inside.holders.now) c.self.view_is (rw c.self.invariant.can_hold (holders_within c.self.inside.hands.outputs))

pub returns-in-None : goal.returns-in-None
returns-in-None c =
    let nothing : amount_in c.args.self.now.left c.args.id ≡ 0 = omega (arith, c.if-left-eq0.true, c.left-left.ensures) in
    let none = subst (λ (stage : Stage). amount_in stage.left c.args.id ≡ 0) (sym c.self.view_is) nothing in
    rw (sym c.self.view_is) (gives_none_left c.self.inside.hands c.self.inside.left c.self.inside.holders.now c.self.inside.owed c.args.id c.args.amount c.self.invariant none)
