use Rattle.std.proofs.Common.{◌≡◌, map, take}
use Rattle.ox_ledger.specs.Balanced.{amount_held}
use Rattle.ox_ledger.specs.Runes.{Placement}
use Rattle.ox_ledger.proofs.tables.Tables.due_of.Given as goal

abbrev pub invariant-loop-place : goal.invariant-loop-place
invariant-loop-place l = l.amount ≡ amount_held (map (λ (new : Placement). new.1) (take l.place l.self.due.now)) l.id
