use Rattle.ox_links.proofs.Round.{first_of_round, turns_go_round}
use Rattle.ox_links.proofs.rotation.each_has_its_turn.Goals as goal

pub returns : goal.returns
returns g c = record { first = first_of_round; each = turns_go_round }
