use Rattle.std.proofs.Common.{◌≡◌, drop}
use Rattle.ox_allocation.specs.Balances.{amount_in}
use Rattle.ox_ledger.proofs.holders.amount_in.Given as goal

abbrev pub invariant-loop-other : goal.invariant-loop-other
invariant-loop-other l = amount_in l.balances l.id ≡ amount_in (drop l.other-index l.balances) l.id
