-- A file of version 3 that is read in pieces: its body, and then record by record.
use Rattle.std.specs.Prelude.{◌≡◌, ℕ, suc, ◌+◌, ◌≤◌, Bool, true, false, IsTrue, List, [], ◌∷◌, ◌++◌}
use Rattle.std.specs.Prelude.{length, take, drop, Option, Some, None, Result, Ok, if◌then◌else◌}
use Rattle.ox_outside.specs.Files.{Files, file_of, other}
use Rattle.ox_outside.specs.declared.site.Site.{Ghosts as Meanings}
use Rattle.ox_outside.specs.declared.site.Which.{Which}
use Rattle.ox_gated.specs.Gate.{IsOpen, IsShut, chain_of}
use Rattle.ox_gated.specs.Layout.{is_closed, summed, summed_body_at}
use Rattle.ox_gated.specs.Reading.{Chain, Found, Fault, fault_at, found_or_fault, gate_behind, reading}
use Rattle.ox_gated.specs.Tail.{Kept, Holds, IsSettled}
use Rattle.ox_gated.specs.declared.head.Head.{Head}
use Rattle.ox_gated.specs.declared.records.Record.{Record}

-- ---- what is known

-- Before the body is read: which file is current, its head, the length of its body and how much of
-- that was read, the length of the file, the bytes before the body, and whether the other file is
-- closed.
pub record Unread : Type 0 where
  pub file : Which
  pub head : Head
  pub size : ℕ
  pub read : ℕ
  pub len : ℕ
  pub front : List ℕ
  pub other_closed : Bool

-- Behind the body: also the place of the gate there, how many records were read, and the place of
-- the gate behind these.
pub record Walked : Type 0 where
  pub file : Which
  pub head : Head
  pub first : ℕ
  pub records : ℕ
  pub place : ℕ
  pub len : ℕ
  pub other_closed : Bool

-- the gate behind the body, before any record is read
abbrev pub walker_behind : Unread → Walked
walker_behind parts = record {
  file = parts.file;
  head = parts.head;
  first = summed_body_at + parts.size;
  records = 0;
  place = summed_body_at + parts.size;
  len = parts.len;
  other_closed = parts.other_closed;
}

-- one gate further, where there was a record
abbrev pub walked_on : Walked → Option Record → Walked
walked_on walker None = walker
walked_on walker (Some one) = record walker {
  records = suc walker.records;
  place = gate_behind summed walker.place one.payload;
}

-- what was found, where this gate is the last one
abbrev pub found_at : Walked → List ℕ → List Record → Found
found_at walker body records = record {
  file = walker.file;
  head = walker.head;
  body = body;
  records = records;
  gate = walker.place;
}

-- and its tail
abbrev pub tail_at : Walked → Kept
tail_at walker = record {
  file = walker.file;
  head = walker.head;
  first = walker.first;
  records = walker.records;
  gate = walker.place;
  other_closed = walker.other_closed;
}

-- ---- of two files

-- the current file's body
abbrev pub body_in : Unread → Files → List ℕ
body_in parts files = take parts.size (drop summed_body_at (file_of files parts.file))

-- what of it is still to be read
abbrev pub left_in : Unread → Files → List ℕ
left_in parts files = drop parts.read (body_in parts files)

-- it is as its sum says
abbrev pub is_intact_in : Unread → Files → Bool
is_intact_in parts files = summed.is_body parts.front (body_in parts files)

-- the gates from here on
abbrev pub chain_in : Walked → Files → Chain
chain_in walker files =
    chain_of walker.head walker.place (drop walker.place (file_of files walker.file))

-- ---- one step, by the bytes of the file

-- what stands there before a payload, or all where the file ends
abbrev pub front_here : Walked → List ℕ → List ℕ
front_here walker file = take 41 (drop walker.place file)

-- the gate here is closed, or open before this record and what stands behind it
abbrev pub IsHere : Walked → List ℕ → Option Record → Type 0
IsHere walker file None = IsShut walker.head walker.place (drop walker.place file)
IsHere walker file (Some one) =
    IsOpen walker.head walker.place (drop walker.place file) one.payload
    (drop (gate_behind summed walker.place one.payload) file)

-- the record has its gate here, and the file goes on to its end
abbrev pub IsWithin : Walked → Record → Type 0
IsWithin walker one =
    (one.place ≡ walker.place) × (gate_behind summed walker.place one.payload ≤ walker.len)

-- ---- what two files stand for

-- what the files stand for that have this body and these records, by the gates from here on
abbrev pub found_behind : Walked → List ℕ → List Record → Files → Result Found Fault
found_behind walker body records files =
    let more = chain_in walker files in
    found_or_fault walker.file walker.head body (records ++ more.records) more.end

-- the same by the body
abbrev pub found_in : Unread → Files → Result Found Fault
found_in parts files =
    if is_intact_in parts files
    then found_behind (walker_behind parts) (body_in parts files) [] files
    else fault_at parts.file summed_body_at

-- wherever version 3 is read the files stand for this
abbrev pub StandAs : Files → Result Found Fault → Type 0
StandAs files found = (reads : ℕ → Bool) → IsTrue (reads 3) → reading reads files ≡ found

-- Both files have at least one byte, this one has this length, and the other one is closed or not.
pub record AreThere (file : Which) (size : ℕ) (shut : Bool) (files : Files) : Type 0 where
  pub some_a : 1 ≤ length files.a
  pub some_b : 1 ≤ length files.b
  pub len : size ≡ length (file_of files file)
  pub closed : shut ≡ is_closed (file_of files (other file))

-- What is known before the body is read is so of these files, and by the body it is decided what
-- they stand for.
pub record AreParts (parts : Unread) (files : Files) : Type 0 where
  pub there : AreThere parts.file parts.len parts.other_closed files
  pub front : parts.front ≡ take summed_body_at (file_of files parts.file)
  pub stand : StandAs files (found_in parts files)

-- This body and these records were read of the files, and by the gates from here on it is decided
-- what they stand for.
pub record HasWalked (walker : Walked) (body : List ℕ) (records : List Record) (files : Files)
    : Type 0 where
  pub there : AreThere walker.file walker.len walker.other_closed files
  pub first : walker.first ≡ summed_body_at + length body
  pub count : walker.records ≡ length records
  pub stand : StandAs files (found_behind walker body records files)

-- ---- of a site

-- This is what of the body is still to be read, where the site tells its files.
pub record IsLeft {S : Type 0} (means : Meanings S) (parts : Unread) (site : S) (rest : List ℕ)
    : Type 0 where
  pub told : IsTrue (means.told site)
  pub are : AreParts parts (means.seen site)
  pub is : rest ≡ left_in parts (means.seen site)

-- a piece of the body, of one byte at the least and `most` at the most, was put behind the window,
-- or nothing was left
pub record MovesOn (most : ℕ) (some : Bool) (old new : Unread) (window later : List ℕ)
    : Type 0 where
  pub piece : List ℕ
  pub parts : new ≡ record old { read = old.read + length piece }
  pub behind : later ≡ window ++ piece
  pub within : length piece ≤ most
  pub inside : old.read + length piece ≤ old.size
  pub put : some ≡ true → 1 ≤ length piece
  pub none_left : some ≡ false → (piece ≡ []) × (old.read ≡ old.size)

-- The window and what is left behind it are what they were.
pub record GoesOn {S : Type 0} (means : Meanings S) (parts : Unread) (site : S)
    (window later rest : List ℕ) : Type 0 where
  pub next : List ℕ
  pub left : IsLeft means parts site next
  pub same : later ++ next ≡ window ++ rest

-- These are the body and all records, and the tail holds once each crash leaves what is read.
pub record HasEnded {S : Type 0} (means : Meanings S) (walker : Walked) (body : List ℕ)
    (records : List Record) (site : S) : Type 0 where
  pub stand : StandAs (means.seen site) (Ok (found_at walker body records))
  pub holds : IsSettled means site → Holds means (tail_at walker) site

-- after a step that gave this record, or the end
abbrev pub HasStepped : {S : Type 0} → Meanings S → Walked → List ℕ → List Record → Option Record
    → S → Type 0
HasStepped means walker body records (Some one) site =
    HasWalked walker body (records ++ one ∷ []) (means.seen site)
HasStepped means walker body records None site = HasEnded means walker body records site
