use Rattle.ox_ledger.proofs.PartLemmas.{lead_both_ways}
use Rattle.ox_ledger.proofs.laws.parts_lead_both_ways.Goals as goal

pub returns : goal.returns
returns c = lead_both_ways
