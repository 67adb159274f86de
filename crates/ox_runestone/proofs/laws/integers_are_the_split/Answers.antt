use Rattle.std.proofs.Common.{arith}
use Rattle.ox_runestone.proofs.IntegersAreTheSplit.{read_is_split, split_is_read}
use Rattle.ox_runestone.proofs.laws.integers_are_the_split.Goals as goal

pub returns : goal.returns
returns c = λ integers. (
  read_is_split integers c.args.payload.now (λ i. omega (arith, c.type_inv.payload i)),
  split_is_read integers c.args.payload.now,
)
