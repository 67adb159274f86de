use Rattle.ox_rules.proofs.Moving.{moves}
use Rattle.ox_rules.proofs.laws.spends_move_in_order.Goals as goal

pub returns : goal.returns
returns c = moves
