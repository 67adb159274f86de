use Rattle.ox_etching.proofs.Opening.{opening}
use Rattle.ox_etching.proofs.laws.mints_are_open.Goals as goal

pub returns : goal.returns
returns c = opening
