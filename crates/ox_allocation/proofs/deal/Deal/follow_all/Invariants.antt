use Rattle.std.proofs.Common.{drop}
use Rattle.ox_allocation.specs.Balances.{amount_in}
use Rattle.ox_allocation.specs.Gifts.{given_by}
use Rattle.ox_allocation.proofs.Giving.{IsFollowing}
use Rattle.ox_allocation.proofs.deal.Deal.follow_all.Given as goal

abbrev pub invariant-loop-edict : goal.invariant-loop-edict
invariant-loop-edict l =
    IsFollowing l.etched l.initial.self (given_by l.initial.self.outputs l.etched l.edicts (amount_in l.initial.self.left)) (drop l.edict-index l.edicts) l.self
