use Rattle.std.proofs.Common.{◌≡◌, ◌++◌, drop}
use Rattle.std.specs.List.{concat}
use Rattle.ox_envelope.specs.Walk.{texts}
use Rattle.ox_envelope.proofs.payload.join.Given as goal

abbrev pub invariant-loop-part : goal.invariant-loop-part
invariant-loop-part l = l.joined.items ++ concat (texts (drop l.part-index l.parts)) ≡ concat (texts l.parts)
