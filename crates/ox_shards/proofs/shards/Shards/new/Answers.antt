use Rattle.ox_shards.specs.Lines.{line_of}
use Rattle.ox_shards.proofs.ShardLemmas.{no_shards}
use Rattle.ox_shards.proofs.shards.Shards.new.Goals as goal

pub invariant_of-result : goal.invariant_of-result
invariant_of-result g c = no_shards g.K.Ord.cmp (λ key. line_of c.one.result (g.K.Sharded.spread key)) c.one.result.count c.new.result.items c.new-2.result.entries c.one.ensures c.new.ensures.items c.new-2.ensures.empty
