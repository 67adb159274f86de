use Rattle.ox_allocation.proofs.Sums.{adds_up}
use Rattle.ox_allocation.proofs.laws.edicts_to_all_add_up.Goals as goal

pub returns : goal.returns
returns c = adds_up
