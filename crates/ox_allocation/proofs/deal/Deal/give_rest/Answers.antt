use Rattle.ox_allocation.specs.Balances.{amount_in}
use Rattle.ox_allocation.specs.Dealing.{owed_to}
use Rattle.ox_allocation.proofs.Holders.{holders_within}
use Rattle.ox_allocation.proofs.Owing.{fits_once_paid}
use Rattle.ox_allocation.proofs.deal.Deal.give_rest.Goals as goal

pub give_each-requires-clause-places : goal.give_each-requires-clause-places
give_each-requires-clause-places c = rw c.self.invariant.can_hold (holders_within c.self.inside.hands.outputs)

pub give_all-requires-clause-fits : goal.give_all-requires-clause-fits
give_all-requires-clause-fits c =
    rw c.in_ok-give_each.ensures
    (fits_once_paid c.self.inside.hands.outputs (amount_in c.self.inside.left) c.self.inside.hands.hands (owed_to c.self.inside.holders.now c.self.inside.owed) c.self.invariant.fits)

pub burn_all-requires : goal.burn_all-requires
burn_all-requires c =
    rw c.in_ok-give_each.ensures
    (fits_once_paid c.self.inside.hands.outputs (amount_in c.self.inside.left) c.self.inside.hands.hands (owed_to c.self.inside.holders.now c.self.inside.owed) c.self.invariant.fits)
