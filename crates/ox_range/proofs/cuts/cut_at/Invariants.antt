use Rattle.std.proofs.Common.{◌≡◌, ◌+◌, ◌<◌, ◌≤◌, take, length}
use Rattle.ox_range.specs.Runs.{numbers_of, run_at}
use Rattle.ox_range.proofs.cuts.cut_at.Given as goal

abbrev pub invariant-loop-before : goal.invariant-loop-before
invariant-loop-before l = record {
  index : l.index ≤ length l.runs;
  before : length (numbers_of (take l.index l.runs)) ≡ l.before;
  inside : l.before < l.place → (l.index < length l.runs) × (l.place < l.before + (run_at l.runs l.index).count);
}

abbrev pub decreases-loop-before : goal.decreases-loop-before
decreases-loop-before l = l.index
