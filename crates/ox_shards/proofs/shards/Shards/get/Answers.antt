use Rattle.std.proofs.Common.{ap}
use Rattle.ox_shards.specs.Lines.{line_of}
use Rattle.ox_shards.specs.Shards.{items_at}
use Rattle.ox_shards.proofs.ShardLemmas.{got_in_list, got_in_others}
use Rattle.ox_shards.proofs.shards.Shards.get.Goals as goal

pub returns-in-Some : goal.returns-in-Some
returns-in-Some g c = got_in_list g.K.Ord.cmp (λ key. line_of c.self.inside.lines (g.K.Sharded.spread key)) c.self.inside.lines.count c.self.inside.lists.items c.self.inside.others.entries c.self.invariant _ c.self.view_is c.args.key.now _
    (ap (λ lists. items_at lists (line_of c.self.inside.lines (g.K.Sharded.spread c.args.key.now))) c.deref.ensures.value)
    c.in-Some.value.now c.in-Some.ensures

pub returns-in-None : goal.returns-in-None
returns-in-None g c = got_in_others g.K.Ord.cmp (λ key. line_of c.self.inside.lines (g.K.Sharded.spread key)) c.self.inside.lines.count c.self.inside.lists.items c.self.inside.others.entries c.self.invariant _ c.self.view_is c.args.key.now _
    (ap (λ lists. items_at lists (line_of c.self.inside.lines (g.K.Sharded.spread c.args.key.now))) c.deref.ensures.value)
    _ c.in-None.ensures c.get.ensures.value
