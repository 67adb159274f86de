use Rattle.std.proofs.Common.{◌^◌, subst}
use Rattle.ox_outputs.proofs.OffsetLemmas.{AreBelow, found_below}
use Rattle.ox_outputs.proofs.cell.Cell.reaches.Goals as goal

pub returns-clause-none : goal.returns-clause-none
returns-clause-none c = λ q some. found_below c.args.self.now q (2 ^ 32) (subst (AreBelow (2 ^ 32)) c.self.view_is c.self.invariant.1) some
