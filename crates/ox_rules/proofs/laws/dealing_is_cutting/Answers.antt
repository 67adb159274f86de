use Rattle.ox_rules.proofs.Cutting.{cutting}
use Rattle.ox_rules.proofs.laws.dealing_is_cutting.Goals as goal

pub returns : goal.returns
returns c = cutting
