use Rattle.std.proofs.Common.{◌≡◌, replicate, None}
use Rattle.ox_turns.proofs.turns.no_links.Given as goal

abbrev pub invariant-loop : goal.invariant-loop
invariant-loop l = l.slots.items ≡ replicate l.counter None
