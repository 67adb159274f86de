use Rattle.std.proofs.Common.{◌≡◌, length}
use Rattle.ox_runestone.specs.Payload.{before, integers_of}
use Rattle.ox_runestone.proofs.payload.integers_of.Given as goal

abbrev pub invariant-loop-rest : goal.invariant-loop-rest
invariant-loop-rest l = before l.integers.items (integers_of l.rest) ≡ integers_of l.payload

abbrev pub decreases-loop-rest : goal.decreases-loop-rest
decreases-loop-rest l = length l.rest
