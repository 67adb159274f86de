use Rattle.ox_links.proofs.Replay.{same_replies}
use Rattle.ox_links.proofs.laws.commands_decide_replies.Goals as goal

pub returns : goal.returns
returns g c = same_replies
