use Rattle.std.proofs.Common.{refl, arith, List, length, take, drop, ◌-◌}
use Rattle.std.specs.Prelude.{replicate}
use Rattle.ox_block.specs.Hashes.{wtxid}
use Rattle.ox_block.specs.declared.block.Tx.{Tx}
use Rattle.ox_block.proofs.Commitments.{ids_behind, no_ids}
use Rattle.ox_block.proofs.ItemsInTurn.{behind_all, mapped_behind}
use Rattle.ox_block.proofs.roots.wtxids.Goals as goal

-- the transactions behind the coinbase
abbrev others : List Tx → List Tx
others txs = take (length txs - 1) (drop 1 txs)

pub returns-in_default : goal.returns-in_default
returns-in_default c = no_ids c.args.txs.now c.new-ids.result.items c.in_default.len_below c.new-ids.ensures.items

pub loop-tx-init : goal.loop-tx-init
loop-tx-init c = rw c.in_ok-push.ensures.items (rw c.new-ids.ensures.items refl)

pub loop-tx-preserved : goal.loop-tx-preserved
loop-tx-preserved c =
    rw c.in_ok-push-2.ensures.items
    (mapped_behind wtxid (others c.args.txs.now) c.loop-tx.tx-index c.tx-item.result (replicate 32 0) c.wtxid_of.result.0 c.loop-tx.ids.items c.loop-tx-test.true c.tx-item.is c.wtxid_of.ensures c.loop-tx.invariant)

pub returns : goal.returns
returns c = ids_behind c.args.txs.now c.loop-tx.ids.items (omega arith) (behind_all wtxid (others c.args.txs.now) c.loop-tx.tx-index (replicate 32 0) c.loop-tx.ids.items c.loop-tx-test.false c.loop-tx.invariant)
