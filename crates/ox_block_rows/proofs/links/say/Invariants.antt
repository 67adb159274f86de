use Rattle.std.proofs.Common.{◌≡◌, [], false}
use Rattle.ox_block_rows.proofs.links.say.Given as goal

-- nothing is due, and no request unanswered
abbrev pub invariant-loop-piece : goal.invariant-loop-piece
invariant-loop-piece l =
    goal.iterator-loop-piece.can_next l.piece-iterator
    × goal.iterator-loop-piece.is_finite l.piece-iterator
    × (l.session.due ≡ []) × (l.session.asked ≡ false)
