use Rattle.std.proofs.Common.{◌≡◌, ◌*◌, length}
use Rattle.ox_part_tests.specs.Rising.{AreWithin}
use Rattle.ox_part_tests.proofs.outputs.locating.runs_below.Given as goal

abbrev pub invariant-loop-number : goal.invariant-loop-number
invariant-loop-number g l = record {
  within : AreWithin 0 (3 * l.number) l.sats;
  len : length l.sats ≡ 2 * l.number;
}
