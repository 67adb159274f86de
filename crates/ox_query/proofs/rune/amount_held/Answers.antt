use Rattle.std.proofs.lemmas.Option.{slice_get_within}
use Rattle.ox_query.proofs.rune.amount_held.Goals as goal

pub held-requires : goal.held-requires
held-requires g c = slice_get_within (g.V.View.index c.args.live.now).runes c.args.n c.args.row.now c.requires
