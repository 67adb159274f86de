use Rattle.std.proofs.Common.{sym, ◌∙◌}
use Rattle.ox_query.proofs.RuneLists.{named_within}
use Rattle.ox_query.proofs.rune.rune_body.Goals as goal

pub rune-requires : goal.rune-requires
rune-requires g c = named_within (g.V.View.index c.args.live.now).runes c.args.part.now c.in-Some.n (sym c.in-Some.is ∙ c.in_ok-n.ensures)
