-- What is written of a command: a record, or a whole file where one of version 2 has to turn.
use Rattle.std.specs.Prelude.{◌≡◌, ◌+◌, [], length, Some, Ok}
use Rattle.ox_outside.specs.Files.{other}
use Rattle.ox_gated.specs.OtherFile.{MustTurn}
use Rattle.ox_gated.specs.Tail.{Fits, IsFramedBehind, Kept}
use Rattle.ox_model.specs.Stack.{Stack}
use Rattle.ox_files.specs.Payload.{payload_step}
use Rattle.ox_files.specs.Stands.{stack_in_file}
use Rattle.ox_store.specs.Heads.{next_head}
use Rattle.ox_store.specs.declared.writing.Writing.{Writing}
use Rattle.ox_store.specs.declared.writing.Writing.TheVariants.{Append, Turn}

-- A whole file is due in place of a record: the current one has version 2 and must turn. At version
-- 3 each command is a record.
abbrev pub IsFileDue : Kept → Type 0
IsFileDue tail = (tail.head.version ≡ 2) × MustTurn tail

-- It is what the tail calls for: a file with the next head exactly where one is due, and else a
-- record, spelled for this tail, that fits.
abbrev pub IsDue : Kept → Writing → Type 0
IsDue tail (Append framed) =
    ¬ IsFileDue tail × IsFramedBehind tail framed × Fits tail (length framed.payload)
IsDue tail (Turn whole) = IsFileDue tail × (whole.head ≡ next_head tail.head)

-- It leads from one stack to another: the payload does, or the file stands for the latter.
abbrev pub LeadsTo : Stack → Stack → Writing → Type 0
LeadsTo before after (Append framed) = payload_step before framed.payload ≡ Some after
LeadsTo before after (Turn whole) = stack_in_file whole.head whole.body [] ≡ Ok after

-- the tail of the same file, which has one record more
pub record HasOneMore (old new : Kept) : Type 0 where
  pub file : new.file ≡ old.file
  pub head : new.head ≡ old.head
  pub records : new.records ≡ old.records + 1

-- the tail of the other file, which has the next generation and no record
pub record HasTurned (old new : Kept) : Type 0 where
  pub file : new.file ≡ other old.file
  pub head : new.head ≡ next_head old.head
  pub records : new.records ≡ 0
