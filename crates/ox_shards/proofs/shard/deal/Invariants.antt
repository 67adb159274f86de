use Rattle.std.proofs.Common.{◌≡◌, ◌≤◌, ◌-◌, ◌+◌, ◌++◌, length, take, drop}
use Rattle.ox_shards.specs.Lines.{is_last}
use Rattle.ox_shards.specs.Shards.{going, staying}
use Rattle.ox_shards.proofs.shard.deal.Given as goal

abbrev pub invariant-loop-place : goal.invariant-loop-place
invariant-loop-place g l = record {
  low : l.place ≤ length l.from.items;
  both : length l.last.items + length l.from.items ≡ length l.fn.last.items + length l.fn.from.items;
  room : length l.last.items + length l.from.items ≤ l.last.cap;
  stay : staying (λ key. is_last l.lines (g.K.Sharded.spread key)) l.fn.from.items ≡ take l.place l.from.items ++ staying (λ key. is_last l.lines (g.K.Sharded.spread key)) (drop l.place l.from.items);
  go : l.fn.last.items ++ going (λ key. is_last l.lines (g.K.Sharded.spread key)) l.fn.from.items ≡ l.last.items ++ going (λ key. is_last l.lines (g.K.Sharded.spread key)) (drop l.place l.from.items);
}

abbrev pub decreases-loop-place : goal.decreases-loop-place
decreases-loop-place g l = length l.from.items - l.place
