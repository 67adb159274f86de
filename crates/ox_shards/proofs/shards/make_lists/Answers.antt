use Rattle.std.proofs.Common.{rules, arith, ◌≡◌, ◌∙◌, ◌++◌, ◌∷◌, [], List, ap}
use Rattle.ox_shards.specs.Shards.{Entries, joined, items_at}
use Rattle.ox_shards.proofs.ShardLemmas.{joined_more, items_more}
use Rattle.ox_shards.proofs.shards.make_lists.Goals as goal

pub loop-alloc-preserved : goal.loop-alloc-preserved
loop-alloc-preserved g c = record {
  kept = search (rules, arith);
  same = ap joined items ∙ joined_more c.loop-alloc.lists.items c.new.result c.new.ensures ∙ c.loop-alloc.invariant.same;
  each = λ i. ap (λ (ls : List (Entries g.row.K.Denot g.row.V.Denot)). items_at ls i) items ∙ items_more c.loop-alloc.lists.items c.new.result c.new.ensures i ∙ c.loop-alloc.invariant.each i;
} where
  items : c.push_reserved.new.self.items ≡ c.loop-alloc.lists.items ++ c.new.result ∷ []
  items = c.push_reserved.ensures.items ∙ ap (λ (ls : List (Entries g.row.K.Denot g.row.V.Denot)). ls ++ c.new.result ∷ []) c.reserve.ensures.items
