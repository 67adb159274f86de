use Rattle.std.proofs.Common.{◌≡◌, [], false}
use Rattle.ox_block_rows.proofs.links.drive.Given as goal

-- nothing is due, and no request unanswered
abbrev pub invariant-loop-word : goal.invariant-loop-word
invariant-loop-word l =
    goal.iterator-loop-word.can_next l.word-iterator
    × goal.iterator-loop-word.is_finite l.word-iterator
    × (l.session.due ≡ []) × (l.session.asked ≡ false)
