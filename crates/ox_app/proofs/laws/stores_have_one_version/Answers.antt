use Rattle.ox_app.proofs.Versions.{one_version}
use Rattle.ox_app.proofs.laws.stores_have_one_version.Goals as goal

pub returns : goal.returns
returns c = one_version
