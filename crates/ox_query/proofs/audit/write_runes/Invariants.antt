use Rattle.std.proofs.Common.{◌∷◌, map, take}
use Rattle.json.specs.Token.{begin_array}
use Rattle.ox_replies.specs.Audits.{rune_audit_tree}
use Rattle.ox_query.specs.Written.{Adds, tokens_of_all}
use Rattle.ox_query.proofs.audit.write_runes.Given as goal

abbrev pub invariant-loop-rune : goal.invariant-loop-rune
invariant-loop-rune l = Adds l.fn.out l.out (begin_array ∷ tokens_of_all (map rune_audit_tree (take l.rune-index l.runes)))
