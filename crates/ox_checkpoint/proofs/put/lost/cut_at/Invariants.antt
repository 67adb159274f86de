use Rattle.ox_checkpoint.proofs.LostLemmas.{AreWhole}
use Rattle.ox_checkpoint.proofs.put.lost.cut_at.Given as goal

abbrev pub invariant-loop-run : goal.invariant-loop-run
invariant-loop-run l = AreWhole l.runs l.count l.run-index l.whole l.left
