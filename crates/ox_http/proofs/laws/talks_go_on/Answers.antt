-- Message by message.
use Rattle.ox_http.proofs.Talking.{talks_join}
use Rattle.ox_http.proofs.laws.talks_go_on.Goals as goal

pub returns : goal.returns
returns c = talks_join
