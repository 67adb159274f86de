use Rattle.std.proofs.Common.{◌≡◌, [], false}
use Rattle.ox_block_rows.proofs.links.turns.Given as goal

-- nothing is due, and no request unanswered
abbrev pub invariant-loop : goal.invariant-loop
invariant-loop l = (l.session.due ≡ []) × (l.session.asked ≡ false)
