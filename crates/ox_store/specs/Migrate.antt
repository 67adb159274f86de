-- What the migration of a store of version 1 answers and leaves. Out of memory may be answered at
-- any time, and nothing else.
use Rattle.std.specs.Prelude.{◌≡◌, ◌⊎◌, ℕ, Result, Ok, Err}
use Rattle.ox_outside.specs.Files.{Files, other}
use Rattle.ox_outside.specs.declared.site.Which.{Which}
use Rattle.ox_gated.specs.Reading.{Found, ReadsAlike}
use Rattle.ox_gated.specs.Tail.{Kept}
use Rattle.ox_gated.specs.declared.fault.Halt.TheVariants as halts
use Rattle.ox_gated.specs.declared.head.Head.{Head}
use Rattle.ox_model.specs.Stack.{Stack}
use Rattle.ox_files.specs.OldStands.{OldFault, IllFormed, Refused, old_stands}
use Rattle.ox_files.specs.Stands.{Misfit, stands}
use Rattle.ox_replay.specs.declared.chains.ReplayFault.{ReplayFault}
use Rattle.ox_replay.specs.declared.chains.ReplayFault.TheVariants as replays
use Rattle.ox_store.specs.Heads.{next_head}
use Rattle.ox_store.specs.declared.fault.MigrateFault.{MigrateFault}
use Rattle.ox_store.specs.declared.fault.MigrateFault.TheVariants as migrates

-- where it isn't the disk or memory, the fault is the one that the files have
abbrev pub IsOldFault : Result (Stack × ℕ) (OldFault Misfit) → MigrateFault → Type 0
IsOldFault standing (migrates.NotStore file at) =
    standing ≡ Err (IllFormed (record { file = file; at = at }))
IsOldFault standing (migrates.Old command refusal) = standing ≡ Err (Refused command refusal)
IsOldFault standing (migrates.Halt halt) = Unit {0}

-- the fault of this file
abbrev pub old_fault_in : Which → ReplayFault → MigrateFault
old_fault_in file (replays.At place) = migrates.NotStore file place
old_fault_in file (replays.Old command refusal) = migrates.Old command refusal
old_fault_in file replays.Memory = migrates.Halt halts.Memory

-- the head of the file that takes the place of one with this head: version 2, the next generation
abbrev pub migrated_head : Head → Head
migrated_head head = next_head (record head { version = 2 })

-- The tail of the file that takes the place of the one that was found: the other one, of the next
-- head, without a record.
pub record HasMigrated (found : Found) (tail : Kept) : Type 0 where
  pub file : tail.file ≡ other found.file
  pub head : tail.head ≡ migrated_head found.head
  pub records : tail.records ≡ 0

-- files that are read as these stand for what these stand for at version 1
abbrev pub StaysOld : Files → Type 0
StaysOld files = (image : Files) → ReadsAlike files image → old_stands image ≡ old_stands files

-- Files that are read as these, whichever version is read, and so have the same commands, which
-- lead to the same stack; or files that stand for that stack at version 2.
abbrev pub IsOldOrMigrated : Files → Files → Type 0
IsOldOrMigrated files image =
    (ReadsAlike files image × (old_stands image ≡ old_stands files))
    ⊎ ((made : Stack × ℕ) × (old_stands files ≡ Ok made) × (stands image ≡ Ok made.0))
