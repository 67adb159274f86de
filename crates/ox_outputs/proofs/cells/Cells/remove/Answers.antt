use Rattle.ox_outputs.specs.Cells.{cell_at}
use Rattle.ox_outputs.proofs.CellsLemmas.{nothing_taken}
use Rattle.ox_outputs.proofs.cells.Cells.remove.Goals as goal

pub returns-in-None : goal.returns-in-None
returns-in-None c = nothing_taken (cell_at c.args.self.now) c.args.first c.in-None.ensures.none
