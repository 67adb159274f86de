use Rattle.ox_allocation.proofs.LawLemmas.{returns_empty}
use Rattle.ox_allocation.proofs.laws.returns_get_nothing.Goals as goal

pub returns : goal.returns
returns c = returns_empty
