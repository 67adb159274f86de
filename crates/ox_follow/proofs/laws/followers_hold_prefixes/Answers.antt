use Rattle.ox_follow.proofs.Following.{holds_prefixes}
use Rattle.ox_follow.proofs.laws.followers_hold_prefixes.Goals as goal

pub returns : goal.returns
returns g c = holds_prefixes
