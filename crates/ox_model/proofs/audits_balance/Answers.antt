use Rattle.ox_model.proofs.Audits.{satoshis_balance, runes_balance}
use Rattle.ox_model.proofs.audits_balance.Goals as goal

pub returns-clause-satoshis : goal.returns-clause-satoshis
returns-clause-satoshis c = satoshis_balance

pub returns-clause-runes : goal.returns-clause-runes
returns-clause-runes c = runes_balance
