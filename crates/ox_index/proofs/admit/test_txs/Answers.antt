use Rattle.std.proofs.Common.{ap, arith, length}
use Rattle.ox_transfer.proofs.Sizes.{few_txs}
use Rattle.ox_index.proofs.admit.test_txs.Goals as goal

pub overflow_cast-result : goal.overflow_cast-result
overflow_cast-result c = omega (arith, few_txs c.args.block.now c.requires.lawful, c.in-Some.ensures.within, ap length c.as_slice.ensures)
