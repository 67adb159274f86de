-- Piece by piece.
use Rattle.ox_http.proofs.Cutting.{stream_cut}
use Rattle.ox_http.proofs.pieces.streams_are_their_requests.Goals as goal

pub returns : goal.returns
returns c = stream_cut
