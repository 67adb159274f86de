-- What the answers of a store say of the definitions. Out of memory may be answered at
-- any time, and nothing else.
use Rattle.std.specs.Prelude.{◌≡◌, Result, Err}
use Rattle.ox_outside.specs.declared.site.Which.{Which}
use Rattle.ox_model.specs.Stack.{Stack}
use Rattle.ox_files.specs.Stands.{Misfit}
use Rattle.ox_gated.specs.declared.fault.Halt.TheVariants as halts
use Rattle.ox_checkpoint.specs.declared.restoring.Unjudged.{Unjudged}
use Rattle.ox_checkpoint.specs.declared.restoring.Unjudged.TheVariants as restores
use Rattle.ox_store.specs.declared.fault.OpenFault.{OpenFault}
use Rattle.ox_store.specs.declared.fault.OpenFault.TheVariants as opens

-- where it isn't the disk or memory, the fault is the one that the files have
abbrev pub IsMisfit : Result Stack Misfit → OpenFault → Type 0
IsMisfit standing (opens.NotStore file at) = standing ≡ Err (record { file = file; at = at })
IsMisfit standing (opens.Halt halt) = Unit {0}

-- the fault of this file
abbrev pub fault_in : Which → Unjudged → OpenFault
fault_in file (restores.At place) = opens.NotStore file place
fault_in file restores.Memory = opens.Halt halts.Memory
