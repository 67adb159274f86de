use Rattle.ox_follow.proofs.Following.{own_fit}
use Rattle.ox_follow.proofs.laws.own_frames_fit.Goals as goal

pub returns : goal.returns
returns g c = own_fit
