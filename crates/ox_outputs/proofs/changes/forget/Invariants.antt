use Rattle.std.proofs.Common.{◌≡◌, ℕ, length}
use Rattle.ox_outputs.specs.Slots.{KeepRows, rows_of, tidied_at}
use Rattle.ox_outputs.proofs.changes.forget.Given as goal

abbrev pub invariant-loop-spot : goal.invariant-loop-spot
invariant-loop-spot l = record {
  rows : rows_of l.slots ≡ rows_of l.fn.slots;
  filled : KeepRows l.fn.slots l.slots;
  tidied : (p : ℕ) → tidied_at l.changed.items l.slots p ≡ tidied_at l.fn.changed.items l.fn.slots p;
}

abbrev pub decreases-loop-spot : goal.decreases-loop-spot
decreases-loop-spot l = length l.changed.items
