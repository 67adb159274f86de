use Rattle.std.proofs.Common.{◌≤◌, ℕ}
use Rattle.std.specs.Prelude.{IsSome}
use Rattle.ox_outputs.specs.Cells.{start_in}
use Rattle.ox_outputs.proofs.cells.Cells.last_to.Given as goal

-- each start up to the number is up to here
abbrev pub invariant-loop-from : goal.invariant-loop-from
invariant-loop-from l = record {
  low : l.at ≤ l.number;
  rest : (q : ℕ) → IsSome (start_in l.self q) → q ≤ l.number → q ≤ l.at;
}

abbrev pub decreases-loop-from : goal.decreases-loop-from
decreases-loop-from l = l.at
