use Rattle.ox_outputs.proofs.PieceLemmas.{room_seen}
use Rattle.ox_outputs.proofs.piece.Piece.has_room.Goals as goal

pub returns : goal.returns
returns c = room_seen c.self.inside.outpoints c.self.inside.marks c.self.inside.rows c.args.self.now c.self.invariant c.self.view_is c.len.result c.len.ensures
