use Rattle.std.proofs.Common.{arith}
use Rattle.ox_feed.proofs.Table.{value-at}
use Rattle.ox_feed.proofs.digits.digit.Goals as goal

pub returns : goal.returns
returns c = value-at c.args.c (omega arith)
