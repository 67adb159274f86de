use Rattle.ox_range.proofs.Ranges.one.Goals as goal

pub invariant_of-result : goal.invariant_of-result
invariant_of-result c = c.from_numbers.ensures.kept
