use Rattle.ox_block.specs.Hashes.{txid}
use Rattle.ox_block.proofs.ItemsInTurn.{mapped_on, mapped_all}
use Rattle.ox_block.proofs.txids.ids_of.Goals as goal

pub loop-tx-init : goal.loop-tx-init
loop-tx-init c = c.in_ok-ids.ensures.items

pub loop-tx-preserved : goal.loop-tx-preserved
loop-tx-preserved c =
    rw c.in_ok-push.ensures.items
    (mapped_on txid c.args.txs.now c.loop-tx.tx-index c.tx-item.result c.in_ok-txid_in.field-0.0 c.loop-tx.ids.items c.loop-tx-test.true c.tx-item.is c.in_ok-txid_in.ensures c.loop-tx.invariant)

pub returns : goal.returns
returns c = mapped_all txid c.args.txs.now c.loop-tx.tx-index c.loop-tx.ids.items c.loop-tx-test.false c.loop-tx.invariant
