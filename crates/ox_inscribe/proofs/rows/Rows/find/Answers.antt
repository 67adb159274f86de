use Rattle.std.proofs.Common.{◌∙◌, ap}
use Rattle.ox_inscribe.specs.Inscriptions.{find}
use Rattle.ox_inscribe.specs.Shelved.{Numbered}
use Rattle.ox_inscribe.proofs.rows.Rows.find.Goals as goal

pub returns : goal.returns
returns c = c.find.ensures ∙ c.self.invariant.found.firsts c.args.id.now ∙ ap (λ (seen : Numbered). find seen.rows c.args.id.now) c.self.view_is
