use Rattle.ox_allocation.proofs.EdictLemmas.{gives}
use Rattle.ox_allocation.proofs.laws.edicts_take_what_is_left.Goals as goal

pub returns : goal.returns
returns c = gives
