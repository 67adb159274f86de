-- How a body is read as its bytes come.
use Rattle.std.specs.Prelude.{◌≡◌, Option, None}
use Rattle.ox_bytes.specs.declared.fault.ReadError.TheVariants as errors
use Rattle.ox_rows.specs.declared.next.NextFault.{NextFault}
use Rattle.ox_rows.specs.declared.next.NextFault.TheVariants as nexts
use Rattle.ox_files.specs.Body.{Body}
use Rattle.ox_checkpoint.specs.declared.coming.BodyFault.{BodyFault}
use Rattle.ox_checkpoint.specs.declared.coming.BodyFault.TheVariants as faults

-- where a field doesn't fit, no body is spelled
abbrev pub SpellsNone : {F : Type 0} → Option Body → NextFault F → Type 0
SpellsNone spelled (nexts.Read errors.Memory) = Unit {0}
SpellsNone spelled (nexts.Read (errors.Fault fault)) = spelled ≡ None
SpellsNone spelled (nexts.Source fault) = Unit {0}

-- Calls of a source: where memory ran out none of them failed, and else it ended by the last one.
abbrev pub Halted : {S W F : Type 0} → (S → W → S → W → Type 0) → (S → W → F → S → W → Type 0)
    → S → W → BodyFault F → S → W → Type 0
Halted went ended s w faults.Memory t v = went s w t v
Halted went ended s w (faults.Source fault) t v = ended s w fault t v
