use Rattle.ox_held.proofs.Found.{outputs_found, outputs_rise}
use Rattle.ox_held.proofs.laws.outputs_are_found.Goals as goal

pub returns : goal.returns
returns c = record { rising = outputs_rise; rows = outputs_found }
