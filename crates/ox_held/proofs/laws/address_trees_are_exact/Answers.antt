use Rattle.ox_held.proofs.AddressTrees.{tree_plain, tree_rises}
use Rattle.ox_held.proofs.laws.address_trees_are_exact.Goals as goal

pub returns : goal.returns
returns c = record { keys = tree_rises; floats = tree_plain }
