use Rattle.ox_range.proofs.RunLemmas.{determined}
use Rattle.ox_range.proofs.runs.runs_are_determined.Goals as goal

pub returns : goal.returns
returns c = determined
