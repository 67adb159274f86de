use Rattle.std.proofs.Common.{drop, length}
use Rattle.ox_allocation.specs.Balances.{amount_in}
use Rattle.ox_allocation.specs.Gifts.{gifts_to, parts_of}
use Rattle.ox_allocation.proofs.Giving.{IsDealing}
use Rattle.ox_allocation.proofs.deal.Deal.deal.Given as goal

abbrev pub invariant-loop-place : goal.invariant-loop-place
invariant-loop-place l =
    IsDealing l.id l.initial.self (gifts_to l.id l.places (parts_of l.amount (amount_in l.initial.self.left l.id) (length l.places))) (drop l.place-index l.places) l.parts l.self
