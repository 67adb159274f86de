use Rattle.std.proofs.Common.{◌≡◌, ◌≤◌, length, map, take}
use Rattle.ox_shards.proofs.shard.write_tags.Given as goal

abbrev pub invariant-loop-entry : goal.invariant-loop-entry
invariant-loop-entry g l = record {
  so_far : l.tags.items ≡ map (λ entry. g.K.Sharded.tag entry.0) (take l.entry-index l.entries);
  room : length l.entries ≤ l.tags.capacity;
  within : length l.tags.items ≡ l.entry-index;
}
