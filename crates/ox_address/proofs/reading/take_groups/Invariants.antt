use Rattle.std.proofs.Common.{take}
use Rattle.ox_address.specs.Passes.{Took}
use Rattle.ox_address.proofs.reading.take_groups.Given as goal

abbrev pub invariant-loop-letter : goal.invariant-loop-letter
invariant-loop-letter l =
    Took l.is_capital (take l.letter-index l.letters) l.fn.sum l.initial.script l.script l.len l.bits.value l.bits.count l.sum
