use Rattle.ox_replies.proofs.Told.{reply_told}
use Rattle.ox_replies.proofs.laws.replies_close_as_asked.Goals as goal

pub returns : goal.returns
returns c = λ asked request. (reply_told asked request).0
