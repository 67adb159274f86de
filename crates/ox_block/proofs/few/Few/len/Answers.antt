use Rattle.ox_block.proofs.FewForms.{empty_long, one_long, two_long}
use Rattle.ox_block.proofs.few.Few.len.Goals as goal

pub returns-in-Empty : goal.returns-in-Empty
returns-in-Empty g c = empty_long c.self.inside.form c.args.self.now c.in-Empty.is c.self.view_is

pub returns-in-One : goal.returns-in-One
returns-in-One g c = one_long c.self.inside.form _ c.args.self.now c.in-One.is c.self.invariant c.self.view_is

pub returns-in-Two : goal.returns-in-Two
returns-in-Two g c = two_long c.self.inside.form _ c.args.self.now c.in-Two.is c.self.invariant c.self.view_is
