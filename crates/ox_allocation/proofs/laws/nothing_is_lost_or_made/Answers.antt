use Rattle.ox_allocation.proofs.LawLemmas.{lost_or_made}
use Rattle.ox_allocation.proofs.laws.nothing_is_lost_or_made.Goals as goal

pub returns : goal.returns
returns c = lost_or_made
