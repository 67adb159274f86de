use Rattle.ox_allocation.proofs.LawLemmas.{lost_or_made}
use Rattle.ox_ledger.proofs.TurnsAdd.{turn_adds}
use Rattle.ox_ledger.proofs.laws.turns_add_mint_and_premine.Goals as goal

pub returns : goal.returns
returns c = turn_adds lost_or_made
