use Rattle.std.proofs.Common.{◌+◌, arith}
use Rattle.std.proofs.lemmas.Bool.{lt-ltb, le-ltb}
use Rattle.ox_name.specs.Unlock.{least_name}
use Rattle.ox_name.proofs.unlock.minimum.Goals as goal

pub returns-then-next-start : goal.returns-then-next-start
unfolding least_name
returns-then-next-start c = rw (lt-ltb (c.args.height + 1) c.args.start (omega arith)) c.shortest.ensures

pub returns : goal.returns
unfolding least_name
returns c = rw (le-ltb (c.args.height + 1) c.args.start (omega arith)) c.least_after.ensures
