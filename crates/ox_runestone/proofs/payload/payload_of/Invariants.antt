use Rattle.ox_runestone.proofs.PayloadLoops.{Joins}
use Rattle.ox_runestone.proofs.payload.payload_of.Given as goal

abbrev pub invariant-loop-item : goal.invariant-loop-item
invariant-loop-item l = Joins l.script l.payload.items l.items
