use Rattle.std.proofs.Common.{◌≡◌, ◌≤◌, ℕ, false, length}
use Rattle.ox_shards.specs.Lines.{is_last}
use Rattle.ox_outputs.specs.Lists.{is_in}
use Rattle.ox_outputs.proofs.places.drop_going.Given as goal

abbrev pub invariant-loop-left : goal.invariant-loop-left
invariant-loop-left l = record {
  within : l.left ≤ length l.list.items;
  stay : (tag place : ℕ) → is_last l.lines tag ≡ false → is_in l.list.items tag place ≡ is_in l.fn.list.items tag place;
}

abbrev pub decreases-loop-left : goal.decreases-loop-left
decreases-loop-left l = l.left
