use Rattle.std.proofs.Common.{◌≡◌, ℕ}
use Rattle.ox_outputs.specs.Starts.{slot_from}
use Rattle.ox_outputs.proofs.starts.sweep.Given as goal

abbrev pub invariant-loop-change : goal.invariant-loop-change
invariant-loop-change l = (q : ℕ) →
    slot_from l.starts q ≡ slot_from l.initial.starts q
