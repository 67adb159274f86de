use Rattle.ox_block.proofs.Commitments.{one_id}
use Rattle.ox_block.proofs.commitment.unmarked_ids_agree.Goals as goal

pub returns : goal.returns
returns c = one_id
