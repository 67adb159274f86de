use Rattle.std.proofs.Common.{arith}
use Rattle.ox_runestone.proofs.CenotaphsHaveCauses.{cause_cenotaph, cenotaph_cause}
use Rattle.ox_runestone.proofs.laws.cenotaphs_have_causes.Goals as goal

pub returns-clause-cause : goal.returns-clause-cause
returns-clause-cause c = cenotaph_cause c.args.script.now c.args.outputs (λ i. omega (arith, c.type_inv.script i))

pub returns-clause-only : goal.returns-clause-only
returns-clause-only c = cause_cenotaph c.args.script.now c.args.outputs (λ i. omega (arith, c.type_inv.script i))
