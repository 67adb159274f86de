use Rattle.std.proofs.Common.{◌≡◌, ◌+◌, ◌==◌, drop, length}
use Rattle.std.specs.List.{position_or_len}
use Rattle.ox_range.specs.Runs.{numbers_of, AreMaximal}
use Rattle.ox_range.proofs.runs.place_among.Given as goal

abbrev pub invariant-loop-run : goal.invariant-loop-run
invariant-loop-run l = record {
  maximal : AreMaximal (drop l.run-index l.runs);
  len : l.before + length (numbers_of (drop l.run-index l.runs)) ≡ length (numbers_of l.runs);
  place : position_or_len (λ x. x == l.number) (numbers_of l.runs) ≡ l.before + position_or_len (λ x. x == l.number) (numbers_of (drop l.run-index l.runs));
}
