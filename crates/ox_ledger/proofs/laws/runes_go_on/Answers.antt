use Rattle.ox_ledger.proofs.GoOnLemmas.{runes_go_on}
use Rattle.ox_ledger.proofs.laws.runes_go_on.Goals as goal

pub returns : goal.returns
returns c = runes_go_on
