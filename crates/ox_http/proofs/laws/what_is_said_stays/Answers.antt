-- The end of the head stays where it is, and the body with it.
use Rattle.ox_http.proofs.Stays.{first_stays}
use Rattle.ox_http.proofs.laws.what_is_said_stays.Goals as goal

pub returns : goal.returns
returns c = first_stays
