use Rattle.std.proofs.Common.{◌≡◌, drop}
use Rattle.ox_ledger.specs.Runes.{burn}
use Rattle.ox_ledger.proofs.BurnLemmas.{Burns}
use Rattle.ox_ledger.proofs.table.RuneTable.burn.Given as goal

abbrev pub invariant-loop-id : goal.invariant-loop-id
invariant-loop-id l = record {
  burns : Burns (burn l.fn.burned l.fn.self.now) (drop l.id-index l.burned) l.self.now;
  mark : l.self.mark ≡ l.fn.self.mark;
}
