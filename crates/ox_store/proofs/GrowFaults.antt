-- Why a store doesn't grow.
use Rattle.std.proofs.Common.{◌≡◌, ℕ}
use Rattle.std.specs.Prelude.{Err, Result}
use Rattle.std.specs.Result.{IfErr}
use Rattle.std.proofs.lemmas.Result.{IfErr-at_err}
use Rattle.ox_outside.specs.declared.site.Which.{Which}
use Rattle.ox_model.specs.Stack.{Stack}
use Rattle.ox_files.specs.Stands.{Misfit}
use Rattle.ox_store.specs.Fault.{IsMisfit}
use Rattle.ox_store.specs.Grow.{IsHalt}
use Rattle.ox_store.specs.declared.fault.OpenFault.{OpenFault}
use Rattle.ox_store.specs.declared.fault.OpenFault.TheVariants as opens

pub halt_grows : (standing : Result Stack Misfit) (fault : OpenFault) → IsHalt fault → IsMisfit standing fault
halt_grows standing (opens.NotStore file at) halt = absurd halt
halt_grows standing (opens.Halt why) halt = tt

pub no_halt : {T : Type 0} (r : Result T OpenFault) (file : Which) (at : ℕ) → IfErr r IsHalt → r ≡ Err (opens.NotStore file at) → ⊥
no_halt r file at halts is = IfErr-at_err IsHalt is halts
