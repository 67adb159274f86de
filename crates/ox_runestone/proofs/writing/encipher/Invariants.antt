use Rattle.std.proofs.Common.{length}
use Rattle.ox_runestone.specs.Spelling.{payload_for}
use Rattle.ox_runestone.proofs.ScriptIsSpelled.{Pushing}
use Rattle.ox_runestone.proofs.writing.encipher.Given as goal

abbrev pub invariant-loop-rest : goal.invariant-loop-rest
invariant-loop-rest l = Pushing (payload_for l.stone) l.script.items l.rest

abbrev pub decreases-loop-rest : goal.decreases-loop-rest
decreases-loop-rest l = length l.rest
