use Rattle.std.proofs.Common.{ap}
use Rattle.ox_allocation.specs.Balances.{amount_in}
use Rattle.ox_allocation.specs.Dealing.{Stage}
use Rattle.ox_allocation.proofs.Handing.{fits_at_first}
use Rattle.ox_allocation.proofs.Owing.{dealt_at_first, nothing_owed}
use Rattle.ox_allocation.proofs.deal.Deal.new.Goals as goal

pub invariant_of-result : goal.invariant_of-result
invariant_of-result c =
    dealt_at_first c.args.hands (amount_in c.args.left) c.args.holders.now c.new.result c.requires.hands c.requires.holders c.new.ensures
    (fits_at_first _ c.args.hands.hands _ c.requires.hands c.requires.left.small)

pub returns-clause-hands : goal.returns-clause-hands
returns-clause-hands c = ap (λ (stage : Stage). stage.hands) (nothing_owed c.args.hands c.args.left c.args.holders.now c.new.result c.new.ensures)
