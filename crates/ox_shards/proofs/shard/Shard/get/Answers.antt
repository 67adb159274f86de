use Rattle.std.proofs.Common.{◌∙◌, List, get_or, ap, sym, Some}
use Rattle.std.specs.BTreeMap.{is_at}
use Rattle.ox_shards.proofs.ListLemmas.{found_value, not_found}
use Rattle.ox_shards.proofs.shard.Shard.get.Goals as goal

pub returns-in-Some : goal.returns-in-Some
returns-in-Some g c =
    ap (λ (e : g.row.K.Denot × g.row.V.Denot). Some e.1) c.index.ensures
    ∙ ap (λ (l : List (g.row.K.Denot × g.row.V.Denot)). Some (get_or l c.in-Some.place c.index.result.now).1) c.self.view_is
    ∙ found_value (is_at (g.K.Ord.cmp c.args.key.now)) c.args.self.now c.in-Some.place c.index.result.now (sym c.in-Some.ensures)

pub returns-in-None : goal.returns-in-None
returns-in-None g c = sym (not_found (is_at (g.K.Ord.cmp c.args.key.now)) c.args.self.now (sym c.in-None.ensures))
