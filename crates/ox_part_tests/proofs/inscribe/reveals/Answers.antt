use Rattle.std.proofs.Common.{◌≡◌}
use Rattle.std.specs.Prelude.{Ok}
use Rattle.ox_outputs.specs.Table.{rows_in}
use Rattle.ox_rules.specs.Transfer.{transfer_of}
use Rattle.ox_rules.specs.declared.moved.Moved.{Moved}
use Rattle.ox_transfer.specs.Parts.{transferred_of}
use Rattle.ox_part_tests.proofs.Values.{value_of}
use Rattle.ox_part_tests.proofs.inscribe.reveals.Goals as goal

pub reveal-requires : goal.reveal-requires
reveal-requires g c =
    let is = value_of (λ (moved : Moved). transfer_of c.profile_of-p.result c.args.height c.block_of-block.result.txs (rows_in c.args.table.now) ≡ Ok (transferred_of moved (rows_in c.transfer.new.table))) c.transfer.result c.expect-moved.result c.expect-moved.ensures c.transfer.ensures.moved in
    c.transfers_tell_of_transactions.ensures c.profile_of-p.result c.args.height c.block_of-block.result.txs (rows_in c.args.table.now) (transferred_of c.expect-moved.result (rows_in c.transfer.new.table)) is
