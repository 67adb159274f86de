use Rattle.std.proofs.Common.{◌≡◌, ◌≤◌, ℕ, drop, length}
use Rattle.ox_outputs.specs.Starts.{slot_from, before_in, AreLogged}
use Rattle.ox_outputs.proofs.starts.restore.Given as goal

-- the newest changes are taken back
abbrev pub invariant-loop-left : goal.invariant-loop-left
invariant-loop-left l = record {
  low : l.from ≤ l.left;
  within : l.left ≤ length l.changes;
  slots : (q : ℕ) → slot_from l.starts q
      ≡ before_in (drop l.left l.changes) (slot_from l.initial.starts) q;
  logged : AreLogged l.changes l.starts;
}

abbrev pub decreases-loop-left : goal.decreases-loop-left
decreases-loop-left l = l.left
