use Rattle.std.proofs.Common.{◌<◌, ◌≢◌, ℕ, None, get_or}
use Rattle.ox_turns.proofs.turns.Turns.free.Given as goal

abbrev pub invariant-loop-at : goal.invariant-loop-at
invariant-loop-at l = (below : ℕ) → below < l.at → get_or l.self.slots below None ≢ None
