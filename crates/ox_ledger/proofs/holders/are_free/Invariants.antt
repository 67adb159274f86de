use Rattle.ox_ledger.proofs.HolderLemmas.{AreFree}
use Rattle.ox_ledger.proofs.holders.are_free.Given as goal

abbrev pub invariant-loop-index : goal.invariant-loop-index
invariant-loop-index l = AreFree l.holders l.txid l.index
