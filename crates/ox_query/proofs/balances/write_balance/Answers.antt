use Rattle.std.proofs.Common.{sym, ◌∙◌}
use Rattle.ox_query.proofs.RuneLists.{by_id_within, few_decimals}
use Rattle.ox_query.proofs.balances.write_balance.Goals as goal

pub rune-requires : goal.rune-requires
rune-requires g c =
    by_id_within (g.V.View.index c.args.live.now).runes c.args.balance.now.0 c.in-Some.n (sym c.by_id.ensures ∙ c.in-Some.is)

pub write_held-requires : goal.write_held-requires
write_held-requires g c =
    few_decimals (g.V.View.chain c.args.live.now) (g.V.View.index c.args.live.now) c.in-Some.n c.rune.result.now (g.met.V.View.sound c.args.live.now) c.rune.ensures
