use Rattle.ox_block.proofs.Commitments.{none_needed}
use Rattle.ox_block.proofs.commitment.unmarked_blocks_need_none.Goals as goal

pub returns : goal.returns
returns c = none_needed
