use Rattle.ox_plain.proofs.EndLaws.{begins, ends}
use Rattle.ox_plain.proofs.laws.ends_are_tested.Goals as goal

pub returns-clause-back : goal.returns-clause-back
returns-clause-back c = ends

pub returns-clause-forth : goal.returns-clause-forth
returns-clause-forth c = begins
