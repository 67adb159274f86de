-- What the opening of two files gives, in the words of what they stand for.
use Rattle.std.specs.Prelude.{◌≡◌, ℕ, ◌+◌, Bool, IsTrue, List, length, take, Option, Some, None}
use Rattle.std.specs.Prelude.{Result, Ok, Err}
use Rattle.ox_outside.specs.Files.{Files, file_of, other}
use Rattle.ox_gated.specs.Layout.{is_closed, is_lawful, layout_of, summed_body_at}
use Rattle.ox_gated.specs.Pick.{Choice, choice_of}
use Rattle.ox_gated.specs.Reading.{Found, Fault, IntactPart}
use Rattle.ox_gated.specs.Tail.{Kept}
use Rattle.ox_gated.specs.declared.open.Examined.{Examined}
use Rattle.ox_gated.specs.declared.open.Front.{Front}
use Rattle.ox_gated.specs.declared.open.Opened.{Opened}
use Rattle.ox_gated.specs.declared.fault.Before.{Before}
use Rattle.ox_gated.specs.declared.fault.GateFault.{GateFault}
use Rattle.ox_gated.specs.declared.fault.GateFault.TheVariants as gates

-- what stands before a fault, where the body is there
abbrev pub intact_part : Option Before → Option IntactPart
intact_part None = None
intact_part (Some before) =
    Some (record { head = before.head; body = before.body; records = before.records })

-- Where it isn't the disk or memory, the fault is the one that the files have.
abbrev pub IsFault : Result Found Fault → GateFault → Type 0
IsFault reading (gates.NotStore file at before) =
    reading ≡ Err (record { file = file; at = at; before = intact_part before })
IsFault reading (gates.Halt halt) = Unit {0}

-- The fault is the one of the choice.
abbrev pub IsUnpicked : Choice → GateFault → Type 0
IsUnpicked choice (gates.NotStore file at before) = (choice ≡ Err (file, at)) × (before ≡ None)
IsUnpicked choice (gates.Halt halt) = Unit {0}

-- a head that stands before the fault is lawful
abbrev pub IsBehindLawful : GateFault → Type 0
IsBehindLawful (gates.NotStore file at (Some before)) = IsTrue (is_lawful before.head)
IsBehindLawful fault = Unit {0}

-- what the opening found
abbrev pub found_of : Opened → Found
found_of opened = record {
  file = opened.file;
  head = opened.head;
  body = opened.body;
  records = opened.records;
  gate = opened.tail.gate;
}

-- the length of a file and its first 90 bytes, or all where it has fewer
pub record IsFrontOf (front : Front) (file : List ℕ) : Type 0 where
  pub len : front.len ≡ length file
  pub bytes : front.bytes.items ≡ take summed_body_at file

-- what was found out of these two files: which is current, its front, and whether the other one is
-- closed
pub record IsExamined (examined : Examined) (files : Files) : Type 0 where
  pub picks : choice_of files.a files.b ≡ Ok (examined.file, examined.opening)
  pub front : IsFrontOf examined.front (file_of files examined.file)
  pub closed : examined.other_closed ≡ is_closed (file_of files (other examined.file))

-- the tail of what was opened
abbrev pub tail_of : Opened → Bool → Kept
tail_of opened other_closed = record {
  file = opened.file;
  head = opened.head;
  first = (layout_of opened.head.version).body_at + length opened.body;
  records = length opened.records;
  gate = opened.tail.gate;
  other_closed = other_closed;
}
