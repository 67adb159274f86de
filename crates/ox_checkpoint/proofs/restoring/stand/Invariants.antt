use Rattle.std.proofs.Common.{◌≡◌, drop}
use Rattle.ox_files.specs.Stands.{stack_after_records, stack_in_file}
use Rattle.ox_checkpoint.proofs.restoring.stand.Given as goal

-- The records so far and those that are left lead where all lead.
abbrev pub invariant-loop-record : goal.invariant-loop-record
invariant-loop-record l = stack_after_records l.standing (drop l.record-index l.record-items) ≡ stack_in_file l.fn.head l.fn.body l.fn.records
