use Rattle.ox_outputs.proofs.CellsLemmas.{cell_dropped, cell_dropped_home}
use Rattle.ox_outputs.proofs.cells.Cells.drop_cell.Goals as goal

pub invariant_of-self : goal.invariant_of-self
invariant_of-self c = cell_dropped_home c.self.inside.cells.entries c.args.self.now c.remove.new.self.entries c.args.from c.self.view_is c.self.invariant.0 c.requires c.remove.ensures.updates.0 c.self.invariant.1

pub returns : goal.returns
returns c = λ q. cell_dropped c.self.inside.cells.entries c.args.self.now c.remove.new.self.entries c.args.from c.self.view_is c.self.invariant.0 c.requires c.remove.ensures.updates.0 q
