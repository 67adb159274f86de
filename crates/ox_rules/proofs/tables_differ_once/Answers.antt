use Rattle.ox_rules.specs.Differences.{reverse_of}
use Rattle.ox_rules.proofs.DifferenceLemmas.{some_differences, one_of_outputs, go_back, from_the_other}
use Rattle.ox_rules.proofs.tables_differ_once.Goals as goal

pub returns-clause-some : goal.returns-clause-some
returns-clause-some c = some_differences

pub returns-clause-one : goal.returns-clause-one
returns-clause-one c = one_of_outputs

pub returns-clause-back : goal.returns-clause-back
returns-clause-back c = go_back

pub returns-clause-forth : goal.returns-clause-forth
returns-clause-forth c = λ before after difference differ.
    go_back after before (reverse_of difference) (from_the_other before after difference differ)
