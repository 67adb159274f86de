use Rattle.ox_drill.proofs.Turns.{falls_by_one}
use Rattle.ox_drill.proofs.laws.commands_come_in_turn.Goals as goal

pub returns : goal.returns
returns g c = falls_by_one g.S.Site
