use Rattle.std.proofs.Common.{◌≡◌, length, Some}
use Rattle.ox_runestone.specs.Message.{edicts_after, edicts_of}
use Rattle.ox_runestone.proofs.MessageLoops.{edicts_joined}
use Rattle.ox_runestone.proofs.message.edicts_of.Given as goal

abbrev pub invariant-loop-rest : goal.invariant-loop-rest
invariant-loop-rest l = edicts_joined l.edicts.items (edicts_after l.outputs (Some l.id) l.rest) ≡ edicts_of l.outputs l.body

abbrev pub decreases-loop-rest : goal.decreases-loop-rest
decreases-loop-rest l = length l.rest
