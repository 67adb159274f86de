-- What a tail keeps of two files, and what a crash leaves while a record is appended.
use Rattle.std.specs.Prelude.{◌≡◌, ◌⊎◌, ℕ, ◌+◌, ◌<◌, ◌≤◌, ◌^◌, Bool, List, [], ◌∷◌, ◌++◌, length}
use Rattle.std.specs.Prelude.{Result, Ok, Err}
use Rattle.ox_outside.specs.Crash.{Remains}
use Rattle.ox_outside.specs.Files.{Files, file_of, other}
use Rattle.ox_outside.specs.declared.site.Site.{Ghosts as Meanings}
use Rattle.ox_outside.specs.declared.site.Which.{Which}
use Rattle.ox_outside.specs.declared.site.Which.TheVariants.{A}
use Rattle.ox_gated.specs.Layout.{Whole, is_closed, checkpoint_bytes, layout_of}
use Rattle.ox_gated.specs.Reading.{Found, Fault, ReadsAlike, ReadsMore, is_any, reading}
use Rattle.ox_gated.specs.declared.head.Head.{Head}

-- which file is current, its head, the place of the gate behind its body, its number of records,
-- the place of its last gate, and whether the other file's first byte is 00
pub record Kept : Type 0 where
  pub file : Which
  pub head : Head
  pub first : ℕ
  pub records : ℕ
  pub gate : ℕ
  pub other_closed : Bool

pub record KeepsFound (tail : Kept) (found : Found) : Type 0 where
  pub file : tail.file ≡ found.file
  pub head : tail.head ≡ found.head
  pub first : tail.first ≡ (layout_of found.head.version).body_at + length found.body
  pub records : tail.records ≡ length found.records
  pub gate : tail.gate ≡ found.gate

-- the tail keeps this of the files
abbrev pub Keeps : Kept → Result Found Fault → Type 0
Keeps tail (Ok found) = KeepsFound tail found
Keeps tail (Err fault) = ⊥

-- Each crash image of the two files is what a read gives.
abbrev pub IsSettled : {S : Type 0} → Meanings S → S → Type 0
IsSettled means site = (r : Remains) → means.may_leave site r → r.files ≡ means.seen site

-- Each crash image of the two files is what a read gives, both files have at least one byte, and
-- the tail keeps of them what it says.
pub record Holds {S : Type 0} (means : Meanings S) (tail : Kept) (site : S) : Type 0 where
  pub settled : IsSettled means site
  pub some_a : 1 ≤ length (means.seen site).a
  pub some_b : 1 ≤ length (means.seen site).b
  pub keeps : Keeps tail (reading is_any (means.seen site))
  pub closed : tail.other_closed ≡ is_closed (file_of (means.seen site) (other tail.file))

-- the files stand for what these stand for, or for that with the record behind it
abbrev pub IsBeforeOrAfter : List ℕ → Files → Files → Type 0
IsBeforeOrAfter payload files image = ReadsAlike files image ⊎ ReadsMore payload files image

-- each place of the file fits 64 bits, with a payload of this length behind its last gate
abbrev pub Fits : Kept → ℕ → Type 0
Fits tail size =
    tail.gate + (layout_of tail.head.version).before_payload + size + 1 < 2 ^ 64

-- what is written of a record: its payload, and the bytes that come behind the open gate
pub record Framing : Type 0 where
  pub payload : List ℕ
  pub bytes : List ℕ

-- a record as this tail's file has it, behind the tail's gate, and the closed gate behind it
pub record IsFramedBehind (tail : Kept) (framed : Framing) : Type 0 where
  pub bytes : framed.bytes
      ≡ (layout_of tail.head.version).record_bytes tail.head.generation tail.gate framed.payload
      ++ 0 ∷ []
  pub short : length framed.payload < (layout_of tail.head.version).payload_limit

-- two files that were made so: A holds the file of this head and body, with an open gate, and B is
-- closed
abbrev pub new_files : Whole → Files
new_files whole = record { a = 1 ∷ checkpoint_bytes whole.head whole.body; b = 0 ∷ [] }

-- what they stand for
abbrev pub new_found : Whole → Found
new_found whole = record {
  file = A;
  head = whole.head;
  body = whole.body;
  records = [];
  gate = (layout_of whole.head.version).body_at + length whole.body;
}
