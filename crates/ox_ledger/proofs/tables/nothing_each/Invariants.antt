use Rattle.std.proofs.Common.{◌≡◌, [], map, take}
use Rattle.ox_block.specs.declared.block.TxOut.{TxOut}
use Rattle.ox_ledger.proofs.tables.nothing_each.Given as goal

abbrev pub invariant-loop : goal.invariant-loop
invariant-loop l = l.given ≡ map (λ (output : TxOut). []) (take l.index l.outputs)
