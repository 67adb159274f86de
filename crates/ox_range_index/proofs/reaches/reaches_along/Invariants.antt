use Rattle.std.proofs.Common.{◌≡◌, ◌++◌, drop}
use Rattle.ox_range_index.specs.Index.{reaches_from}
use Rattle.ox_range_index.proofs.reaches.reaches_along.Given as goal

-- the reaches so far, and those of the runs that are left
abbrev pub invariant-loop-run : goal.invariant-loop-run
invariant-loop-run l =
    l.reaches.items ++ reaches_from l.end (drop l.run-index l.sorted) ≡ reaches_from 0 l.sorted
