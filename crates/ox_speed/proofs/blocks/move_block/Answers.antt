use Rattle.ox_outputs.specs.Table.{rows_in}
use Rattle.ox_transfer.specs.Parts.{transferred_of}
use Rattle.ox_speed.proofs.blocks.move_block.Goals as goal

pub returns-clause-moves : goal.returns-clause-moves
returns-clause-moves c =
    c.transfers_tell_of_transactions.ensures c.profile_of-p.result c.args.height c.in-Ok.block.txs (rows_in c.args.table.now) (transferred_of c.in-Ok-transfer.moved (rows_in c.transfer.new.table)) c.in-Ok-transfer.ensures.moved
