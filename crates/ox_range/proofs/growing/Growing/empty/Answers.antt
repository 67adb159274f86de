use Rattle.std.proofs.Common.{ap, ◌∙◌}
use Rattle.ox_range.specs.Runs.{numbers_of}
use Rattle.ox_range.proofs.RunLemmas.{kept_none, numbers-none}
use Rattle.ox_range.proofs.growing.Growing.empty.Goals as goal

pub invariant_of-result : goal.invariant_of-result
invariant_of-result c = rw c.new-runs.ensures.items kept_none

pub returns : goal.returns
returns c = ap numbers_of c.new-runs.ensures.items ∙ numbers-none
