use Rattle.std.proofs.Common.{◌≡◌, ◌≢◌, ◌≤◌, ℕ, length}
use Rattle.ox_outputs.specs.Lists.{is_in}
use Rattle.ox_outputs.proofs.ListLemmas.{AreOthers}
use Rattle.ox_outputs.proofs.places.drop_entries.Given as goal

abbrev pub invariant-loop-left : goal.invariant-loop-left
invariant-loop-left l = record {
  within : l.left ≤ length l.list.items;
  gone : AreOthers l.place l.left l.list.items;
  left : (tag other : ℕ) → other ≢ l.place → is_in l.list.items tag other ≡ is_in l.fn.list.items tag other;
}

abbrev pub decreases-loop-left : goal.decreases-loop-left
decreases-loop-left l = l.left
