use Rattle.std.proofs.Common.{◌≤◌}
use Rattle.ox_outputs.proofs.StartLemmas.{CountUpTo}
use Rattle.ox_outputs.proofs.starts.last_slot.Given as goal

-- each start up to the number that counts is up to here
abbrev pub invariant-loop-first : goal.invariant-loop-first
invariant-loop-first l = record {
  low : l.at ≤ l.number;
  rest : CountUpTo l.slots l.starts l.number l.at;
}

abbrev pub decreases-loop-first : goal.decreases-loop-first
decreases-loop-first l = l.at
