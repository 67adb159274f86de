use Rattle.ox_outputs.proofs.CellsLemmas.{none_in_empty, empty_home}
use Rattle.ox_outputs.proofs.cells.Cells.new.Goals as goal

pub invariant_of-result : goal.invariant_of-result
invariant_of-result c = empty_home c.new.result.entries c.new.ensures.empty

pub returns : goal.returns
returns c = λ q. none_in_empty c.new.result.entries c.new.ensures.empty q
