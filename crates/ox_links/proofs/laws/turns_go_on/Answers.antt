use Rattle.ox_links.proofs.Turns.{turns_join, turns_go}
use Rattle.ox_links.proofs.laws.turns_go_on.Goals as goal

pub returns : goal.returns
returns g c = record { joined = turns_join; on = turns_go }
