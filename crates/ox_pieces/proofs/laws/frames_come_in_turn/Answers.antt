use Rattle.ox_pieces.proofs.FramesInTurn.{frames_grow}
use Rattle.ox_pieces.proofs.laws.frames_come_in_turn.Goals as goal

pub returns : goal.returns
returns c = frames_grow
