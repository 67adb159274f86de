-- How a store of version 2 grows into one of version 3.
use Rattle.std.specs.Prelude.{◌≡◌, true, Result, Ok}
use Rattle.ox_outside.specs.Files.{Files, other}
use Rattle.ox_gated.specs.OldReading.{growing_reading}
use Rattle.ox_gated.specs.Reading.{Found}
use Rattle.ox_gated.specs.Tail.{Kept}
use Rattle.ox_gated.specs.declared.head.Head.{Head}
use Rattle.ox_model.specs.Stack.{Stack}
use Rattle.ox_files.specs.Stands.{Misfit, stack_in, stands}
use Rattle.ox_store.specs.Heads.{next_head}
use Rattle.ox_store.specs.declared.fault.OpenFault.{OpenFault}
use Rattle.ox_store.specs.declared.fault.OpenFault.TheVariants as opens
use Rattle.ox_store.specs.declared.turning.Turned.{Turned}
use Rattle.ox_store.specs.declared.turning.Turned.TheVariants.{To, GivenUp}

-- The stack that two files of version 2 stand for, where another file is to follow the current one,
-- or the first test that fails.
abbrev pub growing : Files → Result Stack Misfit
growing files = stack_in (growing_reading files)

-- no fault of the files
abbrev pub IsHalt : OpenFault → Type 0
IsHalt (opens.NotStore file at) = ⊥
IsHalt (opens.Halt halt) = Unit {0}

-- the head of the file that takes the place of one with this head: version 3, the next generation
abbrev pub grown_head : Head → Head
grown_head head = next_head (record head { version = 3 })

-- The tail of the file that takes the place of the one that was found: the other one, of the next
-- head, without a record.
pub record HasGrown (found : Found) (tail : Kept) : Type 0 where
  pub file : tail.file ≡ other found.file
  pub head : tail.head ≡ grown_head found.head
  pub records : tail.records ≡ 0

-- The image stands for the stack that these files stand for at version 2.
abbrev pub StandsAsGrown : Files → Files → Type 0
StandsAsGrown files image =
    (stack : Stack) × (growing files ≡ Ok stack) × (stands image ≡ Ok stack)

-- The tail of the other file, which took the place, once the file that was current is closed.
abbrev pub IsShutBehind : Turned → Kept → Type 0
IsShutBehind (To old) new = new ≡ record old { other_closed = true }
IsShutBehind (GivenUp old) new = ⊥
