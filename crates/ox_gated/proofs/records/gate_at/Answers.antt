use Rattle.std.proofs.lemmas.List.{nil_from_length}
use Rattle.ox_gated.proofs.Chain.{is_open, is_shut, is_cut, is_missing}
use Rattle.ox_gated.proofs.records.gate_at.Goals as goal

pub returns-in-None-clause-broken : goal.returns-in-None-clause-broken
returns-in-None-clause-broken c = is_missing c.args.head.now _ _ (nil_from_length _ c.in-None.ensures.cases)

pub returns-in-Some-eq0-default-clause-there : goal.returns-in-Some-eq0-default-clause-there
returns-in-Some-eq0-default-clause-there c = is_shut c.args.head.now _ _ _ _ c.in-Some-eq0-default.ensures.cases.0 c.in-Some-eq0-default.field-0-0-test

pub returns-in-Ok-clause-there : goal.returns-in-Ok-clause-there
returns-in-Ok-clause-there c = is_open c.args.head.now _ _ _ _ _ _ c.in-Some.ensures.cases.0 c.in-Some.field-0-0-test.1 c.in-Ok.ensures

pub returns-in-Err-clause-broken : goal.returns-in-Err-clause-broken
returns-in-Err-clause-broken c = is_cut c.args.head.now _ _ _ _ _ c.in-Some.ensures.cases.0 c.in-Some.field-0-0-test.1 c.in-Err.ensures
