use Rattle.std.proofs.Common.{◌≡◌, drop}
use Rattle.ox_allocation.specs.Balances.{amount_in}
use Rattle.ox_allocation.proofs.balances.amount_of.Given as goal

abbrev pub invariant-loop-other : goal.invariant-loop-other
invariant-loop-other l = amount_in l.runes l.id ≡ amount_in (drop l.other-index l.runes) l.id
