use Rattle.std.proofs.Common.{◌≡◌, ◌++◌, take}
use Rattle.std.specs.List.{flat_map}
use Rattle.ox_inscribe.specs.Inscriptions.{on}
use Rattle.ox_range.specs.Runs.{numbers_of}
use Rattle.ox_held.proofs.sequences.append_on.Given as goal

abbrev pub invariant-loop-run : goal.invariant-loop-run
invariant-loop-run g l =
    let rows = (g.V.View.index l.live).inscriptions in
    l.found.items ≡ l.fn.found.items ++ flat_map (on rows) (numbers_of (take l.run-index l.runs))
