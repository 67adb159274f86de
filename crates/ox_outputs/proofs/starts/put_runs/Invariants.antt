use Rattle.std.proofs.Common.{◌≡◌, ℕ, take}
use Rattle.std.specs.Prelude.{Some, if◌then◌else◌}
use Rattle.ox_outputs.specs.Starts.{slot_from, is_among, firsts_of, AreLogged, AreNoted}
use Rattle.ox_outputs.proofs.starts.put_runs.Given as goal

abbrev pub invariant-loop-run : goal.invariant-loop-run
invariant-loop-run l = record {
  ok : (q : ℕ) → slot_from l.starts q
      ≡ (if is_among (firsts_of (take l.run-index l.runs)) q then Some l.slot
      else slot_from l.initial.starts q);
  noted : AreNoted l.initial.changes.items l.changes.items
      (slot_from l.initial.starts) (slot_from l.starts);
  logged : AreLogged l.changes.items l.starts;
}
