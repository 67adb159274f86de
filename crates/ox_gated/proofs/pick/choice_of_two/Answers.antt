use Rattle.std.proofs.Common.{sym}
use Rattle.ox_gated.specs.Pick.{greater_of}
use Rattle.ox_gated.proofs.pick.choice_of_two.Goals as goal

-- the head of the one file is there, that of the other isn't
pub returns-in-Some-None-clause-choice : goal.returns-in-Some-None-clause-choice
returns-in-Some-None-clause-choice c = sym (λ i. greater_of (c.in-Some-None.is-0 i) (c.in-Some-None.is-1 i))
