use Rattle.ox_outputs.proofs.PieceLemmas.{turned}
use Rattle.ox_outputs.proofs.pieces.replace.Goals as goal

pub returns-clause-turns : goal.returns-clause-turns
returns-clause-turns c = turned c.args.pieces.now.items c.args.place c.index_mut.result.now c.replace.new.self c.replace.result c.args.cell c.requires c.index_mut.ensures.value c.replace.ensures.was c.replace.ensures.cells
