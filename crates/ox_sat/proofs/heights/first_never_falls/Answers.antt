use Rattle.ox_sat.proofs.Epochs.{first_le}
use Rattle.ox_sat.proofs.heights.first_never_falls.Goals as goal

pub returns : goal.returns
returns c = first_le c.args.p.now
