use Rattle.ox_outputs.proofs.PieceLemmas.{updated_more}
use Rattle.ox_outputs.proofs.held.give_new.Goals as goal

pub returns-clause-updates : goal.returns-clause-updates
returns-clause-updates c = updated_more c.args.pieces.now.items c.ensure_room.new.pieces.items c.add.new.pieces.items c.add.result c.new-cell.result _ c.ensure_room.ensures.same c.add.ensures.turns c.new-cell.ensures
