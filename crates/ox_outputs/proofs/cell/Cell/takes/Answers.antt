use Rattle.ox_outputs.proofs.CellLemmas.{gap_empty}
use Rattle.ox_outputs.proofs.cell.Cell.takes.Goals as goal

pub returns-in-Err-clause-there : goal.returns-in-Err-clause-there
returns-in-Err-clause-there c = λ some. absurd (gap_empty _ _ _ c.in-Err.ensures.absent some)
