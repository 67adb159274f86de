use Rattle.std.proofs.Common.{[]}
use Rattle.ox_block.proofs.write.write_block.Goals as goal

pub returns : goal.returns
returns c = c.in_ok-put_block.ensures [] c.empty-bytes.ensures
