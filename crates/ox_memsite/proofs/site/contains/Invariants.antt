use Rattle.std.proofs.Common.{◌≡◌, drop}
use Rattle.ox_memsite.specs.World.{is_in}
use Rattle.ox_memsite.proofs.site.contains.Given as goal

abbrev pub invariant-loop-n : goal.invariant-loop-n
invariant-loop-n l = is_in l.number (drop l.n-index l.numbers) ≡ is_in l.number l.numbers
