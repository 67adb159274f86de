use Rattle.std.proofs.Common.{[]}
use Rattle.ox_block.proofs.hashing.put_form.Goals as goal

pub returns : goal.returns
returns c = c.in_ok-put_stripped.ensures [] c.clear.ensures.items
