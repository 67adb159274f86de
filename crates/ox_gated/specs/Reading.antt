-- What two files stand for: the current one's head, body and records; or the file and place of the
-- first test that fails.
use Rattle.std.specs.Prelude.{◌≡◌, ℕ, zero, suc, ◌+◌, Bool, true, List, [], ◌∷◌, ◌++◌, length, take}
use Rattle.std.specs.Prelude.{drop, nat_lt, ◌==◌, ◌||◌, not}
use Rattle.std.specs.Prelude.{Option, Some, None, Result, Ok, Err, if◌then◌else◌}
use Rattle.ox_outside.specs.Files.{Files, file_of}
use Rattle.ox_outside.specs.declared.site.Which.{Which}
use Rattle.ox_gated.specs.Layout.{Layout, layout_of, version_at}
use Rattle.ox_gated.specs.Pick.{Choice, choice_of}
use Rattle.ox_gated.specs.declared.head.Head.{Head}
use Rattle.ox_gated.specs.declared.head.Opening.{Opening}
use Rattle.ox_gated.specs.declared.records.Record.{Record}

-- ---- records

-- The records from a place on, and the place of the closed gate behind them; or of the first gate
-- that is missing or whose record is cut or not as its sum says.
pub record Chain : Type 0 where
  pub records : List Record
  pub end : Result ℕ ℕ

-- a record in front of the others
abbrev pub with_record : ℕ → List ℕ → Chain → Chain
with_record place payload more = record {
  records = record { place = place; payload = payload } ∷ more.records;
  end = more.end;
}

-- where the gate behind a record is that has its own at this place
abbrev pub gate_behind : Layout → ℕ → List ℕ → ℕ
gate_behind layout place payload = place + (layout.before_payload + length payload)

-- behind an open gate: its record and what follows, or the gate's place where there is no record
abbrev pub behind : Layout → ℕ → Result (List ℕ × List ℕ) ℕ → (ℕ → List ℕ → Chain) → Chain
behind layout place (Err left) next = record { records = []; end = Err place }
behind layout place (Ok found) next =
    with_record place found.0 (next (gate_behind layout place found.0) found.1)

-- the gates of a file of this layout and generation from a place on, of which there are at most
-- `most`
unfoldable pub gates : Layout → ℕ → ℕ → ℕ → List ℕ → Chain
gates layout generation most place [] = record { records = []; end = Err place }
gates layout generation zero place (gate ∷ rest) = record { records = []; end = Err place }
gates layout generation (suc most) place (gate ∷ rest) =
    if gate == 0 then record { records = []; end = Ok place } else
    behind layout place (layout.payload_at generation place rest) (gates layout generation most)

-- each gate is a byte of its own
abbrev pub chain : Layout → ℕ → ℕ → List ℕ → Chain
chain layout generation place bytes = gates layout generation (length bytes) place bytes

-- ---- files

-- what the current file holds, and the place of its last gate, which is closed
pub record Found : Type 0 where
  pub file : Which
  pub head : Head
  pub body : List ℕ
  pub records : List Record
  pub gate : ℕ

-- what stands before a fault that lies behind the body
pub record IntactPart : Type 0 where
  pub head : Head
  pub body : List ℕ
  pub records : List Record

-- the file and the place of the first test that fails
pub record Fault : Type 0 where
  pub file : Which
  pub at : ℕ
  pub before : Option IntactPart

-- a fault before the body, or in it
abbrev pub fault_at : Which → ℕ → Result Found Fault
fault_at file at = Err (record { file = file; at = at; before = None })

-- by the end of the records
abbrev pub found_or_fault : Which → Head → List ℕ → List Record → Result ℕ ℕ → Result Found Fault
found_or_fault file head body records (Ok gate) =
    Ok (record { file = file; head = head; body = body; records = records; gate = gate })
found_or_fault file head body records (Err at) =
    let before : IntactPart = record { head = head; body = body; records = records } in
    Err (record { file = file; at = at; before = Some before })

-- by the body and what stands behind it
abbrev pub by_parts : Layout → Which → Opening → List ℕ → List ℕ → Result Found Fault
by_parts layout file opening body rest =
    let records = chain layout opening.head.generation (layout.body_at + opening.size) rest in
    found_or_fault file opening.head body records.records records.end

-- the current file from its body on, at this layout: the body is there and as its sum says, and so
-- are its gates and records
abbrev pub body_reading_at : Layout → Which → List ℕ → Opening → Result Found Fault
body_reading_at layout file bytes opening =
    let body_on = drop layout.body_at bytes in
    let body = take opening.size body_on in
    if nat_lt (length bytes) (layout.body_at + opening.size)
    || not (layout.is_body (take layout.body_at bytes) body)
    then fault_at file layout.body_at
    else by_parts layout file opening body (drop opening.size body_on)

-- the same at the layout of the head's version
abbrev pub body_reading : Which → List ℕ → Opening → Result Found Fault
body_reading file bytes opening =
    body_reading_at (layout_of opening.head.version) file bytes opening

-- the current file: its version is one of those that are read
abbrev pub current_reading : (ℕ → Bool) → Which → List ℕ → Opening → Result Found Fault
current_reading reads file bytes opening =
    if not (reads opening.head.version) then fault_at file version_at else
    body_reading file bytes opening

-- what the files stand for by what is read of the current one, once that is picked
abbrev pub of_picked : (Which → List ℕ → Opening → Result Found Fault) → Files → Choice
    → Result Found Fault
of_picked current files (Err fault) = fault_at fault.0 fault.1
of_picked current files (Ok choice) = current choice.0 (file_of files choice.0) choice.1

abbrev pub reading_by : (ℕ → Bool) → Files → Choice → Result Found Fault
reading_by reads = of_picked (current_reading reads)

-- what the files stand for, where these versions are read
abbrev pub reading : (ℕ → Bool) → Files → Result Found Fault
reading reads files = reading_by reads files (choice_of files.a files.b)

-- ---- which versions are read

-- those that a store may have
abbrev pub is_present : ℕ → Bool
is_present version = version == 2 || version == 3

-- the one whose pieces are handed out and taken
abbrev pub is_led : ℕ → Bool
is_led version = version == 2

-- the one that a store is migrated from
abbrev pub is_old : ℕ → Bool
is_old version = version == 1

-- whichever it is
abbrev pub is_any : ℕ → Bool
is_any version = true

-- ---- two pairs of files

-- both stand for the same, whichever versions are read
abbrev pub ReadsAlike : Files → Files → Type 0
ReadsAlike files image = (reads : ℕ → Bool) → reading reads image ≡ reading reads files

-- the same with one record more
abbrev pub with_payload : List ℕ → Result Found Fault → Result Found Fault
with_payload payload (Err fault) = Err fault
with_payload payload (Ok found) = Ok (record found {
  records = found.records ++ record { place = found.gate; payload = payload } ∷ [];
  gate = gate_behind (layout_of found.head.version) found.gate payload;
})

-- the second stands for what the first does, with this record behind it
abbrev pub ReadsMore : List ℕ → Files → Files → Type 0
ReadsMore payload files image =
    (reads : ℕ → Bool) → reading reads image ≡ with_payload payload (reading reads files)
