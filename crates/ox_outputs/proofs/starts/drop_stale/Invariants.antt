use Rattle.std.proofs.Common.{◌≡◌, ℕ}
use Rattle.ox_outputs.specs.Located.{standing}
use Rattle.ox_outputs.specs.Starts.{slot_from}
use Rattle.ox_outputs.proofs.starts.drop_stale.Given as goal

abbrev pub invariant-loop-run : goal.invariant-loop-run
invariant-loop-run l = (q : ℕ) → standing l.slots (slot_from l.starts) q
    ≡ standing l.slots (slot_from l.initial.starts) q
