use Rattle.std.proofs.Common.{◌-◌}
use Rattle.ox_replies.specs.Walk.{on_between}
use Rattle.ox_query.specs.Written.{Adds}
use Rattle.ox_query.specs.declared.bodies.Body.{Body}
use Rattle.ox_query.proofs.IdLists.{told_of}
use Rattle.ox_query.proofs.ids.write_ids_on_run.Given as goal

-- with what is left to write, all is written
abbrev pub invariant-loop-sat : goal.invariant-loop-sat
invariant-loop-sat g l =
    let rows = (g.V.View.index l.live).inscriptions in
    (last : Body) → Adds l.out last (told_of rows (on_between rows l.from l.end)) → Adds l.fn.out last (told_of rows (on_between rows l.fn.run.first l.end))

abbrev pub decreases-loop-sat : goal.decreases-loop-sat
decreases-loop-sat g l = l.end - l.from
