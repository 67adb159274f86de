use Rattle.ox_desk.proofs.Refusals.{line_is}
use Rattle.ox_desk.proofs.laws.refusals_are_told_alike.Goals as goal

pub returns : goal.returns
returns c = line_is
