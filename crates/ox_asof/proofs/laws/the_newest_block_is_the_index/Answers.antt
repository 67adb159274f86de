use Rattle.ox_asof.proofs.Replying.{newest_reply}
use Rattle.ox_asof.proofs.laws.the_newest_block_is_the_index.Goals as goal

pub returns : goal.returns
returns c = newest_reply
