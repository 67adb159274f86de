use Rattle.std.proofs.Common.{◌≡◌, ◌^◌, ◌<◌, take}
use Rattle.std.specs.Prelude.{fold}
use Rattle.ox_address.specs.Checksum.{step}
use Rattle.ox_address.specs.Passes.{AreSymbols, values_of}
use Rattle.ox_address.proofs.reading.with_letters.Given as goal

abbrev pub invariant-loop-letter : goal.invariant-loop-letter
invariant-loop-letter l = record {
  symbols : AreSymbols l.is_capital (take l.letter-index l.letters);
  checked : l.sum ≡ fold step l.fn.sum (values_of l.is_capital (take l.letter-index l.letters));
  bounded : l.sum < 2 ^ 30;
}
