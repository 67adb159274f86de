use Rattle.std.proofs.Common.{◌≡◌, ◌++◌, drop, length}
use Rattle.std.specs.Option.{IfSome}
use Rattle.ox_ledger.proofs.table.RuneTable.appended.Given as goal

abbrev pub invariant-loop-place : goal.invariant-loop-place
invariant-loop-place l = IfSome l.self.mark (λ before. l.rows ++ drop l.place l.self.now ≡ drop (length before) l.self.now)
