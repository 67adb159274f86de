use Rattle.std.proofs.Common.{◌≡◌, ◌++◌, drop}
use Rattle.ox_allocation.specs.Gifts.{holders, holders_from}
use Rattle.ox_allocation.proofs.deal.holders_of.Given as goal

abbrev pub invariant-loop-place : goal.invariant-loop-place
invariant-loop-place l = l.holders.items ++ holders_from l.place (drop l.place l.outputs) ≡ holders l.outputs
