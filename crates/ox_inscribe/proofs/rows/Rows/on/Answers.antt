use Rattle.std.proofs.Common.{◌∙◌, ap}
use Rattle.ox_inscribe.specs.Inscriptions.{on}
use Rattle.ox_inscribe.specs.Shelved.{Numbered}
use Rattle.ox_inscribe.proofs.rows.Rows.on.Goals as goal

pub returns : goal.returns
returns c = c.on.ensures ∙ c.self.invariant.found.sats c.args.sat ∙ ap (λ (seen : Numbered). on seen.rows c.args.sat) c.self.view_is
