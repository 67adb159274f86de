use Rattle.ox_follow.proofs.Reading.{read_back}
use Rattle.ox_follow.proofs.laws.frames_read_back.Goals as goal

pub returns : goal.returns
returns c = read_back
