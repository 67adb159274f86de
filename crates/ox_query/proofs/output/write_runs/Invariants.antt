use Rattle.std.proofs.Common.{◌∷◌, map, take}
use Rattle.json.specs.Token.{begin_array}
use Rattle.ox_replies.specs.Outputs.{run_tree}
use Rattle.ox_query.specs.Written.{Adds, tokens_of_all}
use Rattle.ox_query.proofs.output.write_runs.Given as goal

abbrev pub invariant-loop-run : goal.invariant-loop-run
invariant-loop-run l = Adds l.fn.out l.out (begin_array ∷ tokens_of_all (map run_tree (take l.run-index l.runs)))
