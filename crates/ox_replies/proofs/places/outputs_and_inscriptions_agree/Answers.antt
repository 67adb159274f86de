-- By the one place of its satoshi.
use Rattle.ox_replies.proofs.Agree.{agree}
use Rattle.ox_replies.proofs.places.outputs_and_inscriptions_agree.Goals as goal

pub returns : goal.returns
returns c = agree
