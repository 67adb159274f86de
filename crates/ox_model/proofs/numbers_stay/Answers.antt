use Rattle.ox_model.proofs.Numbers.{stay}
use Rattle.ox_model.proofs.numbers_stay.Goals as goal

pub returns-clause-inscriptions : goal.returns-clause-inscriptions
returns-clause-inscriptions c = λ p blocks more. (stay p blocks more).inscriptions

pub returns-clause-signed : goal.returns-clause-signed
returns-clause-signed c = λ p blocks more. (stay p blocks more).signed

pub returns-clause-runes : goal.returns-clause-runes
returns-clause-runes c = λ p blocks more. (stay p blocks more).runes
