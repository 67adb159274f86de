use Rattle.ox_desk.proofs.SameReplies.{same_reply}
use Rattle.ox_desk.proofs.hits.hits_are_the_same_reply.Goals as goal

pub returns : goal.returns
returns c = same_reply
