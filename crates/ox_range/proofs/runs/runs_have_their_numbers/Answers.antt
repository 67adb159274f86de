use Rattle.ox_range.proofs.RunLemmas.{numbers_of-runs_of}
use Rattle.ox_range.proofs.runs.runs_have_their_numbers.Goals as goal

pub returns : goal.returns
returns c = numbers_of-runs_of
