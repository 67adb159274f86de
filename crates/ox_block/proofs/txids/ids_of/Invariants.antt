use Rattle.std.proofs.Common.{◌≡◌, take, map}
use Rattle.ox_block.specs.Hashes.{txid}
use Rattle.ox_block.proofs.txids.ids_of.Given as goal

abbrev pub invariant-loop-tx : goal.invariant-loop-tx
invariant-loop-tx l = l.ids.items ≡ map txid (take l.tx-index l.txs)
