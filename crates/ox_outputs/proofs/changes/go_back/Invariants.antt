use Rattle.std.proofs.Common.{◌≡◌, ◌≤◌, ℕ, length}
use Rattle.ox_outputs.specs.Slots.{outpoint_at, rows_of, undone, AreSpots}
use Rattle.ox_outputs.proofs.changes.go_back.Given as goal

abbrev pub invariant-loop-row : goal.invariant-loop-row
invariant-loop-row l = record {
  rows : undone l.before.items l.changed (rows_of l.slots) ≡ undone l.fn.before.items l.changed (rows_of l.fn.slots);
  short : length l.before.items ≤ length l.changed;
  known : AreSpots l.changed l.slots;
  places : (p : ℕ) → outpoint_at l.slots p ≡ outpoint_at l.fn.slots p;
}

abbrev pub decreases-loop-row : goal.decreases-loop-row
decreases-loop-row l = length l.before.items
