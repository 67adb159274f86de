use Rattle.ox_replies.proofs.Inscriptions.{id_named}
use Rattle.ox_replies.proofs.laws.inscriptions_are_named.Goals as goal

pub returns : goal.returns
returns c = id_named
