use Rattle.std.proofs.Common.{◌≡◌, take}
use Rattle.ox_inscribe.proofs.shelf.share_all.Given as goal

abbrev pub invariant-loop-row : goal.invariant-loop-row
invariant-loop-row l = l.shared ≡ take l.row-index l.rows
