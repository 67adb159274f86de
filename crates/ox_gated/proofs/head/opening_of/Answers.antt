use Rattle.std.proofs.Common.{sym}
use Rattle.ox_gated.proofs.CurrentByFront.{head_short}
use Rattle.ox_gated.proofs.head.opening_of.Goals as goal

pub returns-then-front-lt-SUMS_AT-clause-opening : goal.returns-then-front-lt-SUMS_AT-clause-opening
returns-then-front-lt-SUMS_AT-clause-opening c = sym (head_short c.args.front.now c.if-front-lt-SUMS_AT.true)
