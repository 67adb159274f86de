use Rattle.std.proofs.Common.{◌∙◌, sym}
use Rattle.ox_inscribe.proofs.MapLaws.{first_goes, no_first_goes}
use Rattle.ox_inscribe.proofs.keys.drop_first.Goals as goal

pub returns-then-has_first : goal.returns-then-has_first
returns-then-has_first c = first_goes c.args.ids.now c.remove.new.self c.args.id.now c.args.number (sym c.has_first.ensures ∙ c.if-has_first.true) c.remove.ensures.left

pub returns-else-has_first : goal.returns-else-has_first
returns-else-has_first c = no_first_goes c.args.ids.now c.args.id.now c.args.number (sym c.has_first.ensures ∙ c.if-has_first.false)
