use Rattle.ox_gated.proofs.GateHere.{cut_number, cut_sum, has_front}
use Rattle.ox_gated.proofs.records.summed_gate.Goals as goal

pub returns-then-sum-eq32-clause-there : goal.returns-then-sum-eq32-clause-there
returns-then-sum-eq32-clause-there c = has_front _ _ _ _ _ c.in-Some.ensures.cases.0 c.in-Some.field-0-0-test.1 c.in-Ok.ensures c.if-sum-eq32.true

pub returns-else-sum-eq32-clause-broken : goal.returns-else-sum-eq32-clause-broken
returns-else-sum-eq32-clause-broken c = cut_sum _ _ _ _ _ c.in-Some.ensures.cases.0 c.in-Some.field-0-0-test.1 c.requires c.in-Ok.ensures c.if-sum-eq32.false

pub returns-in-Err-clause-broken : goal.returns-in-Err-clause-broken
returns-in-Err-clause-broken c = cut_number _ _ _ _ c.in-Some.ensures.cases.0 c.in-Some.field-0-0-test.1 c.in-Err.ensures
