use Rattle.ox_allocation.proofs.LawLemmas.{even_splits}
use Rattle.ox_allocation.proofs.laws.splits_are_even.Goals as goal

pub returns : goal.returns
returns c = even_splits
