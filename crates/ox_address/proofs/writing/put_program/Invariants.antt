use Rattle.std.proofs.Common.{ℕ, ◌+◌, ◌*◌, ◌^◌, ◌<◌, ◌≤◌, List, take}
use Rattle.ox_address.specs.Digits.{number}
use Rattle.ox_address.specs.Passes.{StandsIn, Packs}
use Rattle.ox_address.proofs.writing.put_program.Given as goal

abbrev pub invariant-loop-byte : goal.invariant-loop-byte
invariant-loop-byte l = record {
  few : l.bits.count < 5;
  within : l.bits.value < 2 ^ l.bits.count;
  room : l.text.len ≤ 6 + 2 * l.byte-index;
  bounded : l.text.sum < 2 ^ 30;
  packs : (hrp front before : List ℕ) →
      StandsIn hrp front before l.initial.into l.initial.text.len l.initial.text.sum →
      Packs hrp front before l.into l.text.len l.text.sum (number 256 (take l.byte-index l.program)) (8 * l.byte-index)
      l.bits.value l.bits.count;
}
