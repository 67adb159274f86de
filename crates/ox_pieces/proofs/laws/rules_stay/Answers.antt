use Rattle.ox_pieces.proofs.HeadsOfPieces.{rules_kept}
use Rattle.ox_pieces.proofs.laws.rules_stay.Goals as goal

pub returns : goal.returns
returns c = rules_kept
