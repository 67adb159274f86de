use Rattle.std.proofs.Common.{◌≡◌, ◌++◌, drop}
use Rattle.std.specs.Map.{keys_of}
use Rattle.std.specs.Option.{IfSome}
use Rattle.ox_ledger.proofs.CountLemmas.{changes_among}
use Rattle.ox_ledger.proofs.table.RuneTable.counts_changed.Given as goal

abbrev pub invariant-loop-place : goal.invariant-loop-place
invariant-loop-place l =
    IfSome l.self.mark (λ before. l.counts ++ changes_among 0 before l.self.now (drop l.place-index (keys_of l.place-items)) ≡ changes_among 0 before l.self.now (keys_of l.place-items))
