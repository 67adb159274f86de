use Rattle.std.proofs.Common.{take}
use Rattle.ox_query.specs.Written.{Adds}
use Rattle.ox_query.proofs.IdLists.{told_of}
use Rattle.ox_query.proofs.ids.write_ids.Given as goal

abbrev pub invariant-loop-n : goal.invariant-loop-n
invariant-loop-n g l = Adds l.fn.out l.out (told_of (g.V.View.index l.live).inscriptions (take l.n-index l.numbers))
