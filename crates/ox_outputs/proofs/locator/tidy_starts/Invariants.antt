use Rattle.std.proofs.Common.{◌≡◌, ℕ}
use Rattle.ox_outputs.specs.Located.{standing}
use Rattle.ox_outputs.specs.Starts.{slot_from}
use Rattle.ox_outputs.proofs.locator.tidy_starts.Given as goal

abbrev pub invariant-loop-spot : goal.invariant-loop-spot
invariant-loop-spot l = (q : ℕ) → standing l.slots (slot_from l.starts) q
    ≡ standing l.slots (slot_from l.initial.starts) q
