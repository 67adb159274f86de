use Rattle.std.proofs.Common.{sym, subst}
use Rattle.ox_sat.specs.Heights.{first_at}
use Rattle.ox_transfer.specs.Apart.{HoldsOnce}
use Rattle.ox_transfer.specs.Parts.{transferred_of}
use Rattle.ox_transfer.proofs.Claims.{kept_once}
use Rattle.ox_transfer.proofs.moving.transfer.Goals as goal

pub returns-in-Ok-clause-kept : goal.returns-in-Ok-clause-kept
returns-in-Ok-clause-kept g c =
    kept_once c.args.p.now c.args.height c.args.block.now.txs (g.O.OutTable.contents c.begin.new.self) (transferred_of c.in-Ok.moved (g.O.OutTable.contents c.transfer_txs.new.table)) c.requires.lawful.some_tx c.in-Ok.ensures.moved
    (subst (HoldsOnce (first_at c.args.p.now c.args.height)) (sym c.in_ok-begin.ensures.rows) c.requires.once)
