use Rattle.ox_runestone.proofs.EvenTagsLeft.{NoneLeft}
use Rattle.ox_runestone.proofs.message.Fields.leaves_even.Given as goal

abbrev pub invariant-loop-half : goal.invariant-loop-half
invariant-loop-half l = NoneLeft l.self l.outputs l.half
