use Rattle.ox_model.proofs.Changes.{some_change, one_change, goes_undone, goes_redone}
use Rattle.ox_model.proofs.changes_lead_both_ways.Goals as goal

pub returns-clause-some : goal.returns-clause-some
returns-clause-some c = some_change

pub returns-clause-one : goal.returns-clause-one
returns-clause-one c = one_change

pub returns-clause-back : goal.returns-clause-back
returns-clause-back c = goes_undone

pub returns-clause-forth : goal.returns-clause-forth
returns-clause-forth c = goes_redone
