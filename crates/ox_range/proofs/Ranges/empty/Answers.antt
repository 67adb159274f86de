use Rattle.ox_range.proofs.RunLemmas.{kept_none, numbers-none}
use Rattle.ox_range.proofs.Ranges.empty.Goals as goal

pub invariant_of-result : goal.invariant_of-result
invariant_of-result c = record { are_runs = kept_none; compact = tt }

pub returns : goal.returns
returns c = numbers-none
