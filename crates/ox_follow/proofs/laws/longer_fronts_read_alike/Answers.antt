use Rattle.ox_follow.proofs.Reading.{read_alike}
use Rattle.ox_follow.proofs.laws.longer_fronts_read_alike.Goals as goal

pub returns : goal.returns
returns c = read_alike
