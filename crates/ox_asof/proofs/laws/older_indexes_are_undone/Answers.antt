use Rattle.ox_asof.proofs.Asking.{older_undone}
use Rattle.ox_asof.proofs.laws.older_indexes_are_undone.Goals as goal

pub returns : goal.returns
returns c = older_undone
