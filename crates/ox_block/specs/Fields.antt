-- The fields of a block's bytes, in the order of reading, and the place of the first that is at
-- fault.
-- Nothing here is read and nothing fails: each field is laid out from the counts and lengths before
-- it, whether or not the bytes go so far.
use Rattle.std.specs.Prelude.{ℕ, zero, suc, ◌+◌, ◌^◌, Bool, true, false, ◌||◌, ◌&&◌, not, List, []}
use Rattle.std.specs.Prelude.{◌∷◌, ◌++◌, length, take, drop, slice_index, Option, Some, None}
use Rattle.std.specs.Prelude.{Result, Ok, Err, nat_lt, ◌==◌, if◌then◌else◌}
use Rattle.std.specs.Int.{Width, w16, w32, w64, byte_len, from_le_bytes}
use Rattle.ox_block.specs.Spelling.{most_value, most_bytes}

-- What a field is.
pub data Kind : Type 0 where
  -- that many bytes, of which nothing is asked: a number, a hash, or the bytes of a byte string
  plain : ℕ → Kind
  -- a compact size: a length, or the count of a witness stack
  size : Kind
  -- the count of transactions, inputs or outputs
  count : Kind
  -- an output's satoshis; those before it in the transaction have that many
  value : ℕ → Kind
  -- the flag behind a marker
  flag : Kind
  -- a marker, looked at once all its stacks stand there, and whether one of them is not empty
  marker : Bool → Kind
  -- the bytes behind the last transaction
  surplus : Kind

-- a field: its first byte, and what it is
pub record Field : Type 0 where
  pub place : ℕ
  pub kind : Kind

-- ---- numbers that stand at a place; behind the last byte stand zeros

-- how wide the number is behind the first byte of a compact size of 253 or above
abbrev pub size_width : ℕ → Width
size_width first = if first == 253 then w16 else if first == 254 then w32 else w64

-- how many bytes a compact size has, by its first
abbrev pub size_len : ℕ → ℕ
size_len first = if nat_lt first 253 then 1 else 1 + byte_len (size_width first)

-- the least number that needs so many bytes
abbrev pub size_least : ℕ → ℕ
size_least first =
    if nat_lt first 253 then 0 else
    if first == 253 then 253 else
    if first == 254 then 2 ^ 16 else 2 ^ 32

-- the compact size at a place: how many bytes it has, and its number
unfoldable pub size_len_at : List ℕ → ℕ → ℕ
size_len_at bytes place = size_len (slice_index bytes place)

unfoldable pub size_at : List ℕ → ℕ → ℕ
size_at bytes place =
    let first = slice_index bytes place in
    let width = size_width first in
    if nat_lt first 253 then first
    else from_le_bytes width (take (byte_len width) (drop (place + 1) bytes))

-- the number of 8 bytes at a place
unfoldable pub value_at : List ℕ → ℕ → ℕ
value_at bytes place = from_le_bytes w64 (take 8 (drop place bytes))

-- ---- where the fields are

-- fields from a place on, and the place behind them
pub record Layout : Type 0 where
  pub fields : List Field
  pub behind : ℕ

abbrev pub LayoutFrom : Type 0
LayoutFrom = ℕ → Layout

-- nothing
abbrev pub nothing : LayoutFrom
nothing place = record { fields = []; behind = place }

-- one field, of that many bytes
abbrev pub one : Kind → ℕ → LayoutFrom
one kind len place =
    record { fields = record { place = place; kind = kind } ∷ []; behind = place + len }

-- one after the other
infixl 12 ◌▹◌
abbrev pub ◌▹◌ : LayoutFrom → LayoutFrom → LayoutFrom
(first ▹ second) place =
    let before = first place in
    let after = second before.behind in
    record { fields = before.fields ++ after.fields; behind = after.behind }

-- that many of them
unfoldable pub copies : ℕ → LayoutFrom → LayoutFrom
copies zero laid place = nothing place
copies (suc n) laid place = (laid ▹ copies n laid) place

abbrev pub bytes_of : ℕ → LayoutFrom
bytes_of n = one (plain n) n

-- A length and its bytes are two fields.
unfoldable pub text : List ℕ → LayoutFrom
text bytes place = (one size (size_len_at bytes place) ▹ bytes_of (size_at bytes place)) place

-- a count, and what it counts
unfoldable pub counted_copies : Kind → List ℕ → LayoutFrom → LayoutFrom
counted_copies kind bytes laid place =
    (one kind (size_len_at bytes place) ▹ copies (size_at bytes place) laid) place

-- an input: txid, index, script, sequence
unfoldable pub input : List ℕ → LayoutFrom
input bytes place = (bytes_of 32 ▹ bytes_of 4 ▹ text bytes ▹ bytes_of 4) place

-- an output: value and script
unfoldable pub output : List ℕ → ℕ → LayoutFrom
output bytes before place = (one (value before) 8 ▹ text bytes) place

-- that many outputs, with what the outputs before them have
unfoldable pub outputs : List ℕ → ℕ → ℕ → LayoutFrom
outputs bytes zero before place = nothing place
outputs bytes (suc n) before place =
    (output bytes before ▹ outputs bytes n (before + value_at bytes place)) place

unfoldable pub counted_outputs : List ℕ → LayoutFrom
counted_outputs bytes place =
    (one count (size_len_at bytes place) ▹ outputs bytes (size_at bytes place) 0) place

-- a witness stack: how many byte strings, and these
unfoldable pub stack : List ℕ → LayoutFrom
stack bytes place = counted_copies size bytes (text bytes) place

-- whether one of that many stacks from a place on is not empty
unfoldable pub some_item : List ℕ → ℕ → ℕ → Bool
some_item bytes zero place = false
some_item bytes (suc n) place =
    nat_lt 0 (size_at bytes place) || some_item bytes n (stack bytes place).behind

-- that many stacks, and the marker of that place looked at again
unfoldable pub stacks : List ℕ → ℕ → ℕ → LayoutFrom
stacks bytes at_marker n place =
    let all = copies n (stack bytes) place in
    let looked_at : Field = record { place = at_marker; kind = marker (some_item bytes n place) } in
    record { fields = all.fields ++ looked_at ∷ []; behind = all.behind }

-- A byte 0 behind the version is the marker.
unfoldable pub is_marker : List ℕ → ℕ → Bool
is_marker bytes place = nat_lt place (length bytes) && slice_index bytes place == 0

-- a transaction's fields behind its version: with a marker there are also a flag, and a stack for
-- each input
unfoldable pub behind_version : Bool → List ℕ → LayoutFrom
behind_version true bytes place =
    ((bytes_of 1 ▹ one flag 1) ▹ (counted_copies count bytes (input bytes) ▹ (counted_outputs bytes
    ▹ (stacks bytes place (size_at bytes (place + 2)) ▹ bytes_of 4)))) place
behind_version false bytes place =
    (counted_copies count bytes (input bytes) ▹ (counted_outputs bytes ▹ bytes_of 4)) place

unfoldable pub tx : List ℕ → LayoutFrom
tx bytes place = (bytes_of 4 ▹ behind_version (is_marker bytes (place + 4)) bytes) place

-- a header: version, previous hash, root, time, bits, nonce
unfoldable pub header : LayoutFrom
header place = (bytes_of 4 ▹ bytes_of 32 ▹ bytes_of 32 ▹ bytes_of 4 ▹ bytes_of 4 ▹ bytes_of 4) place

unfoldable pub block : List ℕ → LayoutFrom
block bytes place = (header ▹ counted_copies count bytes (tx bytes)) place

-- bytes behind a place are one field
abbrev pub surplus_from : List ℕ → ℕ → List Field
surplus_from bytes place =
    if nat_lt place (length bytes) then record { place = place; kind = surplus } ∷ [] else []

-- The fields of the bytes.
unfoldable pub fields_of : List ℕ → List Field
fields_of bytes = (block bytes 0).fields ++ surplus_from bytes (block bytes 0).behind

-- ---- which of them is at fault

-- fewer bytes are left than the field needs
abbrev pub is_cut : List ℕ → ℕ → ℕ → Bool
is_cut bytes place len = nat_lt (length bytes) (place + len)

-- a longer form than the number needs
abbrev pub is_long : List ℕ → ℕ → Bool
is_long bytes place = nat_lt (size_at bytes place) (size_least (slice_index bytes place))

-- A field is at fault where it is cut, not in its shortest form, or against a rule:
-- a count is 0; a value brings the sum above all satoshis; a flag is not 1; a marker's stacks are
-- all empty; bytes stand behind the last transaction.
abbrev pub is_fault : List ℕ → ℕ → Kind → Bool
is_fault bytes place (plain n) = is_cut bytes place n
is_fault bytes place size = is_cut bytes place (size_len_at bytes place) || is_long bytes place
is_fault bytes place count =
    is_cut bytes place (size_len_at bytes place)
    || (is_long bytes place || size_at bytes place == 0)
is_fault bytes place (value before) =
    is_cut bytes place 8 || nat_lt most_value (before + value_at bytes place)
is_fault bytes place flag = is_cut bytes place 1 || not (slice_index bytes place == 1)
is_fault bytes place (marker some) = not some
is_fault bytes place surplus = true

-- the place of the first field that is at fault
unfoldable pub first_fault : List ℕ → List Field → Option ℕ
first_fault bytes [] = None
first_fault bytes (field ∷ fields) =
    if is_fault bytes field.place field.kind then Some field.place
    else first_fault bytes fields

-- The place of the first fault, or none. Where the bytes are too many it is behind the last one
-- allowed.
unfoldable pub fault_of : List ℕ → Option ℕ
fault_of bytes =
    if nat_lt most_bytes (length bytes) then Some most_bytes
    else first_fault bytes (fields_of bytes)

-- the fault of what reading gives
abbrev pub fault_in : {A : Type 0} → Result A ℕ → Option ℕ
fault_in (Ok x) = None
fault_in (Err place) = Some place
