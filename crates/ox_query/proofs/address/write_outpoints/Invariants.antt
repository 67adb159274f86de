use Rattle.std.proofs.Common.{◌∷◌, map, take}
use Rattle.json.specs.Token.{begin_array}
use Rattle.ox_held.specs.Trees.{outpoint_tree}
use Rattle.ox_query.specs.Written.{Adds, tokens_of_all}
use Rattle.ox_query.proofs.address.write_outpoints.Given as goal

abbrev pub invariant-loop-at : goal.invariant-loop-at
invariant-loop-at l = Adds l.fn.out l.out (begin_array ∷ tokens_of_all (map outpoint_tree (take l.at-index l.places)))
