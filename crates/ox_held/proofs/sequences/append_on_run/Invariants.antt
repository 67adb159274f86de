use Rattle.std.proofs.Common.{◌≡◌, ◌-◌, ◌++◌}
use Rattle.ox_replies.specs.Walk.{on_between}
use Rattle.ox_held.proofs.sequences.append_on_run.Given as goal

-- with those that are left, all are there
abbrev pub invariant-loop-sat : goal.invariant-loop-sat
invariant-loop-sat g l =
    let rows = (g.V.View.index l.live).inscriptions in
    l.found.items ++ on_between rows l.from l.end ≡ l.fn.found.items ++ on_between rows l.fn.run.first l.end

abbrev pub decreases-loop-sat : goal.decreases-loop-sat
decreases-loop-sat g l = l.end - l.from
