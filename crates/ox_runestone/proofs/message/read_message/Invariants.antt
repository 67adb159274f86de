use Rattle.std.proofs.Common.{length}
use Rattle.ox_runestone.proofs.MessageLoops.{Passed}
use Rattle.ox_runestone.proofs.message.read_message.Given as goal

abbrev pub invariant-loop-rest : goal.invariant-loop-rest
invariant-loop-rest l = Passed l.integers l.rest l.fields

abbrev pub decreases-loop-rest : goal.decreases-loop-rest
decreases-loop-rest l = length l.rest
