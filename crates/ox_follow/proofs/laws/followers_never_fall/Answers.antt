use Rattle.ox_follow.proofs.Following.{never_falls}
use Rattle.ox_follow.proofs.laws.followers_never_fall.Goals as goal

pub returns : goal.returns
returns g c = never_falls
