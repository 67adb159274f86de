-- What restoring a chain answers where it gives none. Out of memory may be answered at any time,
-- and nothing else.
use Rattle.std.specs.Prelude.{◌≡◌, ℕ, Result, Err}
use Rattle.ox_model.specs.Stack.{Stack}
use Rattle.ox_files.specs.Stands.{or_place}
use Rattle.ox_gated.specs.declared.records.Record.{Record}
use Rattle.ox_files.specs.Payload.{payload_step}
use Rattle.ox_checkpoint.specs.declared.restoring.Unjudged.{Unjudged}
use Rattle.ox_checkpoint.specs.declared.restoring.Unjudged.TheVariants.{At, Memory}

-- where it isn't memory, the place is that of the first test that fails
abbrev pub IsUnjudged : Result Stack ℕ → Unjudged → Type 0
IsUnjudged judging (At place) = judging ≡ Err place
IsUnjudged judging Memory = Unit {0}

-- the stack after a record, or the place of its gate where it isn't accepted
abbrev pub stack_after_record : Stack → Record → Result Stack ℕ
stack_after_record stack one = or_place one.place (payload_step stack one.payload)
