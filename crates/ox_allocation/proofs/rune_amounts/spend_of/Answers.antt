use Rattle.std.proofs.Common.{sym, ◌-◌}
use Rattle.ox_allocation.proofs.Amounts.{spent}
use Rattle.ox_allocation.proofs.rune_amounts.spend_of.Goals as goal

pub returns-in-Some-clause-left : goal.returns-in-Some-clause-left
returns-in-Some-clause-left c =
    spent c.args.amounts.now.entries _ c.args.id c.args.amount c.in-Some.left.now (sym c.in-Some.ensures.value) (c.get_mut.follows.holds (c.in-Some.left.now - c.args.amount)).0
