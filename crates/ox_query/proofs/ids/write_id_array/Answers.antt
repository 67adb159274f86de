use Rattle.ox_query.proofs.Arrays.{bracketed}
use Rattle.ox_query.proofs.IdLists.{behind_bracket}
use Rattle.ox_query.specs.Listed.{inscription_ids_of}
use Rattle.ox_query.proofs.ids.write_id_array.Goals as goal

pub returns : goal.returns
returns g c =
    bracketed (inscription_ids_of (g.V.View.index c.args.live.now).inscriptions c.args.numbers.now)
    (behind_bracket c.begin_array.ensures c.write_ids.ensures) c.end_array.ensures
