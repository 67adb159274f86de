use Rattle.std.proofs.Common.{◌∙◌, ap}
use Rattle.std.specs.BTreeMap.{is_at}
use Rattle.std.specs.List.{position}
use Rattle.ox_shards.proofs.shard.Shard.find.Goals as goal

pub returns : goal.returns
returns g c = c.place_in.ensures ∙ ap (position (λ (e : g.row.K.Denot × g.row.V.Denot). is_at (g.K.Ord.cmp c.args.key.now) e.0)) (c.deref-2.ensures.value ∙ c.self.view_is)
