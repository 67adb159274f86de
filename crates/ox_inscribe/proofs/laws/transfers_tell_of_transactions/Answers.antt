use Rattle.ox_inscribe.proofs.MoveLaws.{transfer_moves}
use Rattle.ox_inscribe.proofs.laws.transfers_tell_of_transactions.Goals as goal

pub returns : goal.returns
returns c = transfer_moves
