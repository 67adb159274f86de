use Rattle.std.proofs.Common.{◌∙◌, ap}
use Rattle.ox_inscribe.specs.Inscriptions.{has_parent, numbers_where}
use Rattle.ox_inscribe.specs.Shelved.{Numbered}
use Rattle.ox_inscribe.proofs.rows.Rows.children.Goals as goal

pub returns : goal.returns
returns c = c.children.ensures ∙ c.self.invariant.found.parents c.args.id.now ∙ ap (λ (seen : Numbered). numbers_where (has_parent c.args.id.now) 0 seen.rows) c.self.view_is
