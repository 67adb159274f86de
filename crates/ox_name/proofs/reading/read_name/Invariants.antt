use Rattle.std.proofs.Common.{length}
use Rattle.ox_name.proofs.NamesReadBack.{Read}
use Rattle.ox_name.proofs.reading.read_name.Given as goal

abbrev pub invariant-loop-rest : goal.invariant-loop-rest
invariant-loop-rest l = Read l.text l.rest l.name l.spacers l.place

abbrev pub decreases-loop-rest : goal.decreases-loop-rest
decreases-loop-rest l = length l.rest
