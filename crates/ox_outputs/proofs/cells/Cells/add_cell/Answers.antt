use Rattle.ox_outputs.proofs.CellsLemmas.{cell_added, cell_added_home, cell_added_others}
use Rattle.ox_outputs.proofs.cells.Cells.add_cell.Goals as goal

pub invariant_of-self-2 : goal.invariant_of-self-2
invariant_of-self-2 c = cell_added_home c.self.inside.cells.entries c.args.self.now c.insert.new.self.entries c.args.at c.self.view_is c.self.invariant.0 c.requires c.new.result c.new.ensures c.in_ok-insert.ensures.updates.0 c.self.invariant.1

pub returns-clause-same : goal.returns-clause-same
returns-clause-same c = λ q. cell_added c.self.inside.cells.entries c.args.self.now c.insert.new.self.entries c.args.at c.self.view_is c.self.invariant.0 c.requires c.new.result c.new.ensures c.in_ok-insert.ensures.updates.0 q

pub returns-clause-others : goal.returns-clause-others
returns-clause-others c = cell_added_others c.self.inside.cells.entries c.args.self.now c.insert.new.self.entries c.args.at c.self.view_is c.self.invariant.0 c.requires c.new.result c.new.ensures c.in_ok-insert.ensures.updates.0
