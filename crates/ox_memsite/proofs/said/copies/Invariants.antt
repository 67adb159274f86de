use Rattle.std.proofs.Common.{◌≡◌, take}
use Rattle.ox_memsite.specs.Script.{without_empty}
use Rattle.ox_memsite.proofs.said.copies.Given as goal

abbrev pub invariant-loop-entry : goal.invariant-loop-entry
invariant-loop-entry l = l.said.items ≡ without_empty (take l.entry-index l.script)
