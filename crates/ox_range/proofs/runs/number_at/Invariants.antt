use Rattle.std.proofs.Common.{◌≡◌, ◌<◌, drop, length, slice_index}
use Rattle.ox_range.specs.Runs.{numbers_of, AreMaximal}
use Rattle.ox_range.proofs.runs.number_at.Given as goal

abbrev pub invariant-loop-run : goal.invariant-loop-run
invariant-loop-run l = record {
  maximal : AreMaximal (drop l.run-index l.runs);
  within : l.left < length (numbers_of (drop l.run-index l.runs));
  same : slice_index (numbers_of (drop l.run-index l.runs)) l.left ≡ slice_index (numbers_of l.runs) l.fn.place;
}
