use Rattle.std.proofs.Common.{◌∷◌, take}
use Rattle.std.specs.List.{flat_map}
use Rattle.json.specs.Token.{begin_array}
use Rattle.ox_inscribe.specs.Inscriptions.{on}
use Rattle.ox_range.specs.Runs.{numbers_of}
use Rattle.ox_query.specs.Written.{Adds}
use Rattle.ox_query.proofs.IdLists.{told_of}
use Rattle.ox_query.proofs.ids.write_ids_on_runs.Given as goal

abbrev pub invariant-loop-run : goal.invariant-loop-run
invariant-loop-run g l =
    let rows = (g.V.View.index l.live).inscriptions in
    Adds l.fn.out l.out (begin_array ∷ told_of rows (flat_map (on rows) (numbers_of (take l.run-index l.runs))))
