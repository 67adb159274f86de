use Rattle.ox_range.proofs.KeptLemmas.{kept_empty}
use Rattle.ox_range.proofs.cuts.take_all.Goals as goal

pub returns-then-is_snug-clause-kept : goal.returns-then-is_snug-clause-kept
returns-then-is_snug-clause-kept c = rw c.replace.ensures.after kept_empty

pub returns-clause-kept : goal.returns-clause-kept
returns-clause-kept c = kept_empty
