use Rattle.std.proofs.Common.{◌∙◌}
use Rattle.ox_sound.proofs.KeepsPassLemmas.{stands_either}
use Rattle.ox_sound.proofs.moved_places.stands_after.Goals as goal

pub returns : goal.returns
returns g c =
    c.is_there.ensures
    ∙ stands_either c.args.table.now.entries c.args.gone.now c.args.came.now c.args.at.now c.has_row.result c.contains_key.result c.has_row-2.result c.has_row.ensures c.contains_key.ensures c.has_row-2.ensures
