use Rattle.std.proofs.Common.{◌∷◌, map, take}
use Rattle.json.specs.Token.{begin_array}
use Rattle.ox_replies.specs.Inscriptions.{id_tree}
use Rattle.ox_query.specs.Written.{Adds, tokens_of_all}
use Rattle.ox_query.proofs.inscription.write_id_list.Given as goal

abbrev pub invariant-loop-id : goal.invariant-loop-id
invariant-loop-id l = Adds l.fn.out l.out (begin_array ∷ tokens_of_all (map id_tree (take l.id-index l.ids)))
