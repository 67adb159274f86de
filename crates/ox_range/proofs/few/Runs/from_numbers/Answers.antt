use Rattle.std.proofs.Common.{sym, ◌∙◌, ap, arith}
use Rattle.ox_range.specs.Numbers.{numbers_from}
use Rattle.ox_range.proofs.RunLemmas.{kept_one, numbers-none, numbers_of_one, numbers_from-zero}
use Rattle.ox_range.proofs.KeptLemmas.{kept_empty}
use Rattle.ox_range.proofs.few.Runs.from_numbers.Goals as goal

pub returns-then-count-eq0-clause-numbers : goal.returns-then-count-eq0-clause-numbers
returns-then-count-eq0-clause-numbers c = numbers-none ∙ sym (ap (numbers_from c.args.first) c.if-count-eq0.true ∙ numbers_from-zero c.args.first)

pub returns-then-count-eq0-clause-kept : goal.returns-then-count-eq0-clause-kept
returns-then-count-eq0-clause-kept c = kept_empty

pub returns-else-count-eq0-clause-numbers : goal.returns-else-count-eq0-clause-numbers
returns-else-count-eq0-clause-numbers c = numbers_of_one c.args.first c.args.count

pub returns-else-count-eq0-clause-kept : goal.returns-else-count-eq0-clause-kept
returns-else-count-eq0-clause-kept c = record { are_runs = kept_one c.args.first c.args.count (omega (arith, c.if-count-eq0.false)) c.requires; compact = tt }
