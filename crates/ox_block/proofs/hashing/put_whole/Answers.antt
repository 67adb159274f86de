use Rattle.std.proofs.Common.{[]}
use Rattle.ox_block.proofs.hashing.put_whole.Goals as goal

pub returns : goal.returns
returns c = c.in_ok-put_tx.ensures [] c.clear.ensures.items
