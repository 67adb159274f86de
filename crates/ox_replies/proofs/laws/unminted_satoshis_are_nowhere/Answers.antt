use Rattle.ox_replies.proofs.Nowhere.{nowhere}
use Rattle.ox_replies.proofs.laws.unminted_satoshis_are_nowhere.Goals as goal

pub returns : goal.returns
returns c = nowhere
