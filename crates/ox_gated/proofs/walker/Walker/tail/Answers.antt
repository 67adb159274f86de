use Rattle.std.proofs.Common.{◌∙◌, ap}
use Rattle.ox_gated.specs.Parts.{tail_at}
use Rattle.ox_gated.proofs.walker.Walker.tail.Goals as goal

pub returns : goal.returns
returns c = c.at.ensures ∙ ap tail_at c.self.view_is
