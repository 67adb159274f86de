use Rattle.ox_replies.proofs.Walks.{all_walked}
use Rattle.ox_replies.proofs.laws.inscriptions_are_walked.Goals as goal

pub returns : goal.returns
returns c = all_walked
