use Rattle.std.proofs.Common.{rules, arith, ◌∙◌, ap, None}
use Rattle.ox_shards.specs.Lines.{line_of}
use Rattle.ox_shards.proofs.ShardLemmas.{held_at, changed_shards, changed_at}
use Rattle.ox_shards.proofs.shards.Shards.remove.Goals as goal

pub invariant_of-self : goal.invariant_of-self
invariant_of-self g c = changed_shards g.K.Ord.cmp (λ key. line_of c.self.inside.lines (g.K.Sharded.spread key)) c.self.inside.lines.count c.self.inside.lists.items c.self.inside.others.entries c.self.invariant _ c.self.view_is c.args.key.now c.line_of-index.result (c.line_of-index.ensures.value ∙ ap (line_of c.self.inside.lines) c.spread.ensures) c.index_mut.result.now c.take-taken.new.list (search (rules, arith)) c.index_mut.ensures.value (λ a b same. ap (line_of c.self.inside.lines) (g.met.K.Sharded.alike a b same)) c.take-taken.new.others.entries None c.take-taken.ensures.left

pub returns-clause-taken : goal.returns-clause-taken
returns-clause-taken g c = held_at g.K.Ord.cmp (λ key. line_of c.self.inside.lines (g.K.Sharded.spread key)) c.self.inside.lines.count c.self.inside.lists.items c.self.inside.others.entries c.self.invariant _ c.self.view_is c.args.key.now c.line_of-index.result (c.line_of-index.ensures.value ∙ ap (line_of c.self.inside.lines) c.spread.ensures) c.index_mut.result.now c.take-taken.new.list (search (rules, arith)) c.index_mut.ensures.value c.take-taken.result c.take-taken.ensures.taken

pub returns-clause-left : goal.returns-clause-left
returns-clause-left g c = changed_at g.K.Ord.cmp (λ key. line_of c.self.inside.lines (g.K.Sharded.spread key)) c.self.inside.lines.count c.self.inside.lists.items c.self.inside.others.entries c.self.invariant _ c.self.view_is c.args.key.now c.line_of-index.result (c.line_of-index.ensures.value ∙ ap (line_of c.self.inside.lines) c.spread.ensures) c.index_mut.result.now c.take-taken.new.list (search (rules, arith)) c.index_mut.ensures.value (λ a b same. ap (line_of c.self.inside.lines) (g.met.K.Sharded.alike a b same)) c.take-taken.new.others.entries None c.take-taken.ensures.left
