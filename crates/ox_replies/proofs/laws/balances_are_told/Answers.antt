use Rattle.ox_replies.proofs.Balances.{balances_told}
use Rattle.ox_replies.proofs.laws.balances_are_told.Goals as goal

pub returns : goal.returns
returns c = balances_told
