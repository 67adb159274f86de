use Rattle.std.proofs.Common.{◌≡◌, ◌-◌, ◌≤◌, ℕ, length}
use Rattle.ox_shards.specs.Shards.{joined, items_at}
use Rattle.ox_shards.proofs.shards.make_lists.Given as goal

abbrev pub invariant-loop-alloc : goal.invariant-loop-alloc
invariant-loop-alloc g l = record {
  kept : length l.fn.lists.items ≤ length l.lists.items;
  same : joined l.lists.items ≡ joined l.fn.lists.items;
  each : (index : ℕ) → items_at l.lists.items index ≡ items_at l.fn.lists.items index;
}

abbrev pub decreases-loop-alloc : goal.decreases-loop-alloc
decreases-loop-alloc g l = l.count - length l.lists.items
