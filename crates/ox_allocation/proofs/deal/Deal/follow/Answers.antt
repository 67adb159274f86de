use Rattle.std.proofs.Common.{◌∙◌, sym}
use Rattle.ox_allocation.proofs.Giving.{gives_nothing}
use Rattle.ox_allocation.proofs.deal.Deal.follow.Goals as goal

pub returns-in_default : goal.returns-in_default
returns-in_default c = rw (sym c.rune_of.ensures ∙ c.in_default.is) (gives_nothing c.args.self.now)
