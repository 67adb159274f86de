use Rattle.std.proofs.Common.{◌∷◌, map}
use Rattle.json.specs.Token.{begin_array}
use Rattle.ox_query.specs.Paged.{rows_between}
use Rattle.ox_query.specs.Written.{Adds, tokens_of_all}
use Rattle.ox_query.proofs.pages.write_ids_between.Given as goal

abbrev pub invariant-loop-n : goal.invariant-loop-n
invariant-loop-n g l = Adds l.fn.out l.out (begin_array ∷ tokens_of_all (map g.R.Numbered.id_of (rows_between (g.R.Numbered.rows (g.V.View.index l.live)) l.first l.n)))
