use Rattle.std.proofs.Common.{◌∙◌, ap}
use Rattle.ox_inscribe.specs.Inscriptions.{next_on}
use Rattle.ox_inscribe.specs.Shelved.{Shelved}
use Rattle.ox_inscribe.proofs.shelf.Shelf.next_on.Goals as goal

pub returns : goal.returns
returns c = c.next_on.ensures ∙ ap (λ (s : Shelved). next_on s.rows c.args.sat) c.self.view_is
