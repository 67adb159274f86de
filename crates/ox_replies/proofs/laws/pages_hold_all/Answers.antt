use Rattle.ox_replies.proofs.Pages.{all_held}
use Rattle.ox_replies.proofs.laws.pages_hold_all.Goals as goal

pub returns-clause-inscriptions : goal.returns-clause-inscriptions
returns-clause-inscriptions c = all_held

pub returns-clause-runes : goal.returns-clause-runes
returns-clause-runes c = all_held
