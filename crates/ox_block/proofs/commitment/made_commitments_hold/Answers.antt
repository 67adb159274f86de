use Rattle.ox_block.proofs.Commitments.{made_holds}
use Rattle.ox_block.proofs.commitment.made_commitments_hold.Goals as goal

pub returns : goal.returns
returns c = made_holds
