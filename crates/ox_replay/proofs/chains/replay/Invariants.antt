use Rattle.std.proofs.Common.{◌≡◌, drop}
use Rattle.ox_files.specs.OldStands.{empty_stack_at, old_stack_after_records}
use Rattle.ox_index.specs.Chain.{stack_in}
use Rattle.ox_replay.proofs.chains.replay.Given as goal

-- The records so far and those that are left lead where all lead.
abbrev pub invariant-loop-number : goal.invariant-loop-number
invariant-loop-number l = old_stack_after_records l.number (stack_in l.chain) (drop l.number l.record-items) ≡ old_stack_after_records 0 (empty_stack_at l.fn.head) l.fn.records
