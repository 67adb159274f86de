use Rattle.ox_follow.proofs.Following.{takes_judged}
use Rattle.ox_follow.proofs.laws.takes_are_judged.Goals as goal

pub returns : goal.returns
returns g c = takes_judged
