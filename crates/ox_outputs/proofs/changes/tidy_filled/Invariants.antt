use Rattle.std.proofs.Common.{◌≡◌, ℕ, drop, length}
use Rattle.ox_outputs.specs.Slots.{KeepRows, rows_of, tidied_at, filled_before}
use Rattle.ox_outputs.proofs.changes.tidy_filled.Given as goal

-- what is left to tidy, of what the first turns left, is what was to tidy
abbrev pub invariant-loop-spot : goal.invariant-loop-spot
invariant-loop-spot l = record {
  rows : rows_of l.slots ≡ rows_of l.fn.slots;
  filled : KeepRows l.fn.slots l.slots;
  tidied : (p : ℕ) → tidied_at (filled_before (drop (length l.yielded) l.changed) (drop (length l.yielded) l.before)) l.slots p
      ≡ tidied_at (filled_before l.changed l.before) l.fn.slots p;
}
