use Rattle.std.proofs.Common.{sym, ◌∙◌}
use Rattle.ox_allocation.proofs.Gathering.{all_below}
use Rattle.ox_allocation.proofs.balances.is_above.Goals as goal

pub returns-in-Less : goal.returns-in-Less
returns-in-Less c = λ _. all_below c.args.runes.now c.args.id c.in-Some.field-0.now c.requires (sym c.in-Some.ensures.value) (sym c.cmp.ensures ∙ c.in-Less.is)
