use Rattle.std.proofs.Common.{◌≡◌, take}
use Rattle.ox_ledger.proofs.tables.copies.Given as goal

abbrev pub invariant-loop-place : goal.invariant-loop-place
invariant-loop-place l = l.copies.items ≡ take l.place l.list.now
