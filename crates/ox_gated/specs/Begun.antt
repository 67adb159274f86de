-- What the opening of two files gives: all of version 2, and of version 3 what is known before its
-- body is read.
use Rattle.std.specs.Prelude.{◌≡◌, IsTrue, List, ℕ, drop, Some, None, Ok, Err}
use Rattle.ox_outside.specs.Files.{Files}
use Rattle.ox_outside.specs.declared.site.Site.{Ghosts as Meanings}
use Rattle.ox_gated.specs.Gate.{IsBroken}
use Rattle.ox_gated.specs.Layout.{is_lawful}
use Rattle.ox_gated.specs.Opened.{found_of}
use Rattle.ox_gated.specs.Parts.{AreParts, StandAs, Walked}
use Rattle.ox_gated.specs.Reading.{IntactPart, is_present, reading}
use Rattle.ox_gated.specs.Tail.{Holds}
use Rattle.ox_gated.specs.declared.fault.GateFault.{GateFault}
use Rattle.ox_gated.specs.declared.fault.GateFault.TheVariants as gates
use Rattle.ox_gated.specs.declared.open.Opened.{Opened}
use Rattle.ox_gated.specs.declared.parts.Begun.{Begun}
use Rattle.ox_gated.specs.declared.parts.Begun.TheVariants as begins
use Rattle.ox_gated.specs.declared.records.Record.{Record}

-- What was opened whole is what the files stand for; what is read in pieces is so of them.
abbrev pub IsBegun : Files → Begun → Type 0
IsBegun files (begins.Whole opened) = reading is_present files ≡ Ok (found_of opened)
IsBegun files (begins.Parts parts) = AreParts parts files

-- The tail of what was opened whole holds.
abbrev pub HoldsWhole : {S : Type 0} → Meanings S → S → Begun → Type 0
HoldsWhole means site (begins.Whole opened) = Holds means opened.tail site
HoldsWhole means site (begins.Parts parts) = Unit {0}

-- nothing was opened whole
abbrev pub HasParts : Begun → Type 0
HasParts (begins.Whole opened) = ⊥
HasParts (begins.Parts parts) = Unit {0}

-- a lawful head of version 2, and the tail has it
pub record IsWhole (opened : Opened) : Type 0 where
  pub head : opened.tail.head ≡ opened.head
  pub version : opened.head.version ≡ 2
  pub lawful : IsTrue (is_lawful opened.head)

-- What was opened whole has such a head, and of a body that comes in pieces nothing was read.
abbrev pub IsWholeOrUnread : Begun → Type 0
IsWholeOrUnread (begins.Whole opened) = IsWhole opened
IsWholeOrUnread (begins.Parts parts) = parts.read ≡ 0

-- Where it isn't the disk or memory, the fault names this file, and nothing before it; the files
-- stand for nothing, by the gate at its place behind this body and these records.
abbrev pub IsFaultBehind : Walked → List ℕ → List Record → Files → GateFault → Type 0
IsFaultBehind walker body records files (gates.NotStore file at before) =
    let intact : IntactPart = record { head = walker.head; body = body; records = records } in
    (file ≡ walker.file) × (at ≡ walker.place)
    × StandAs files (Err (record { file = file; at = at; before = Some intact }))
IsFaultBehind walker body records files (gates.Halt halt) = Unit {0}

-- Where it isn't the disk or memory, the fault names this gate, which is missing, or whose record
-- is cut or not as its sum says.
abbrev pub IsBrokenHere : Walked → List ℕ → GateFault → Type 0
IsBrokenHere walker file (gates.NotStore which at before) =
    (which ≡ walker.file) × (at ≡ walker.place)
    × IsBroken walker.head walker.place (drop walker.place file)
IsBrokenHere walker file (gates.Halt halt) = Unit {0}

-- the fault has nothing before it
abbrev pub HasNothingBefore : GateFault → Type 0
HasNothingBefore (gates.NotStore file at before) = before ≡ None
HasNothingBefore (gates.Halt halt) = Unit {0}
