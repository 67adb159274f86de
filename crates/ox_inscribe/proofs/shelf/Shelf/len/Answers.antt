use Rattle.std.proofs.Common.{◌∙◌, sym, ap, length}
use Rattle.std.proofs.lemmas.List.{length-take-le}
use Rattle.ox_inscribe.specs.Shelved.{Shelved}
use Rattle.ox_inscribe.proofs.shelf.Shelf.len.Goals as goal

pub returns : goal.returns
returns c = sym (ap (λ (s : Shelved). length s.rows) (sym c.self.view_is) ∙ length-take-le c.self.inside.shown c.self.inside.rows.rows c.self.invariant.fits)
