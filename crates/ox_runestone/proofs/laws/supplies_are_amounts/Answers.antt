use Rattle.ox_runestone.proofs.CenotaphsHaveCauses.{supply_small}
use Rattle.ox_runestone.proofs.laws.supplies_are_amounts.Goals as goal

pub returns : goal.returns
returns c = supply_small
