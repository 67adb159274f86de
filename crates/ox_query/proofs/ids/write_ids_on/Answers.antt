use Rattle.std.proofs.Common.{◌<◌, ℕ, List, length, sym, subst}
use Rattle.std.specs.Prelude.{All}
use Rattle.ox_held.proofs.Between.{on_below}
use Rattle.ox_replies.specs.Inscriptions.{ids_tree}
use Rattle.ox_query.specs.Written.{tokens_of}
use Rattle.ox_query.proofs.Steps.{same}
use Rattle.ox_query.proofs.ids.write_ids_on.Goals as goal

pub write_id_array-requires : goal.write_id_array-requires
write_id_array-requires g c =
    let rows = (g.V.View.index c.args.live.now).inscriptions in
    subst (All (λ n. n < length rows)) (sym c.on.ensures) (on_below rows c.args.sat)

pub returns : goal.returns
returns g c =
    same (λ (numbers : List ℕ). tokens_of (ids_tree (g.V.View.index c.args.live.now).inscriptions numbers)) c.on.ensures c.write_id_array.ensures
