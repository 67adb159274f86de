-- Readers: functions on lists of bytes that give a value and the bytes after it, or the first fault
-- from left to right.
use Rattle.std.specs.Prelude.{◌≡◌, ℕ, zero, suc, ◌^◌, List, [], ◌∷◌, length, take, drop, Bool}
use Rattle.std.specs.Prelude.{Result, Ok, Err, nat_lt, ◌==◌, if◌then◌else◌}
use Rattle.std.specs.Int.{Width, w16, w32, w64, byte_len, from_le_bytes}
use Rattle.ox_bytes.specs.declared.fault.FieldFault.{FieldFault}
use Rattle.ox_bytes.specs.declared.fault.ReadError.{ReadError}
use Rattle.ox_bytes.specs.declared.fault.ReadError.TheVariants as errors
use Rattle.ox_bytes.specs.declared.compact.CompactFault.{CompactFault}
use Rattle.ox_bytes.specs.declared.compact.CompactFault.TheVariants.{Short, NotShortest}

infixl 10 ◌>>=◌
abbrev pub ◌>>=◌ : {A B F : Type 0} → Result A F → (A → Result B F) → Result B F
(Ok x) >>= f = f x
(Err e) >>= f = Err e

-- A reader of values X whose faults are F.
abbrev pub Reading : Type 0 → Type 0 → Type 0
Reading X F = List ℕ → Result (X × List ℕ) F

-- A reader whose fault is the number of bytes left where the faulty field begins.
abbrev pub Reader : Type 0 → Type 0
Reader X = Reading X ℕ

-- ---- fields

-- a number of a width, low byte first
unfoldable pub number_at : Width → Reader ℕ
number_at w bytes =
    if nat_lt (length bytes) (byte_len w) then Err (length bytes)
    else Ok (from_le_bytes w (take (byte_len w) bytes), drop (byte_len w) bytes)

-- that many bytes
unfoldable pub run_at : ℕ → Reader (List ℕ)
run_at n bytes =
    if nat_lt (length bytes) n then Err (length bytes) else Ok (take n bytes, drop n bytes)

-- the number of a compact size behind its first byte, which has to be the least one that needs this
-- form or above it
unfoldable pub long_size : Width → ℕ → Reading ℕ CompactFault
long_size w least bytes =
    if nat_lt (length bytes) (byte_len w) then Err Short else
    if nat_lt (from_le_bytes w (take (byte_len w) bytes)) least then Err NotShortest else
    Ok (from_le_bytes w (take (byte_len w) bytes), drop (byte_len w) bytes)

-- a compact size, and what is wrong where none stands there
unfoldable pub size_of : Reading ℕ CompactFault
size_of [] = Err Short
size_of (first ∷ rest) =
    if nat_lt first 253 then Ok (first, rest) else
    if first == 253 then long_size w16 253 rest else
    if first == 254 then long_size w32 (2 ^ 16) rest else
    long_size w64 (2 ^ 32) rest

-- What is wrong with a field is wrong where the field begins.
abbrev pub result_at : {X F : Type 0} → ℕ → Result X F → Result X ℕ
result_at left (Ok x) = Ok x
result_at left (Err e) = Err left

-- a compact size
unfoldable pub compact_at : Reader ℕ
compact_at bytes = result_at (length bytes) (size_of bytes)

-- a byte string: its length and its bytes are two fields
unfoldable pub string_at : Reader (List ℕ)
string_at bytes = compact_at bytes >>= λ n. run_at n.0 n.1

-- ---- readers of readers

-- one after the other
abbrev pub both : {A B F : Type 0} → Reading A F → Reading B F → Reading (A × B) F
both first second bytes = first bytes >>= λ x. second x.1 >>= λ y. Ok ((x.0, y.0), y.1)

-- made into another value
abbrev pub reading_map : {A B F : Type 0} → (A → B) → Reading A F → Reading B F
reading_map f read bytes = read bytes >>= λ x. Ok (f x.0, x.1)

-- where a value is refused, its first byte is the fault's
abbrev pub unless : {A : Type 0} → (A → Bool) → Reader A → Reader A
unless refused read bytes = read bytes >>= λ x. if refused x.0 then Err (length bytes) else Ok x

-- that many of them
unfoldable pub times : {A F : Type 0} → Reading A F → ℕ → Reading (List A) F
times read zero bytes = Ok ([], bytes)
times read (suc n) bytes = read bytes >>= λ x. times read n x.1 >>= λ xs. Ok (x.0 ∷ xs.0, xs.1)

-- a number of them, and then the values
abbrev pub counted_list : {A F : Type 0} → Reading ℕ F → Reading A F → Reading (List A) F
counted_list count read bytes = count bytes >>= λ n. times read n.0 n.1

-- ---- what a function of the program gives

-- What the function returned, seen by view, is what reading gives.
abbrev pub Reads : {X Y F : Type 0} → (X → Y) → Result X F → Result Y F → Type 0
Reads view (Ok x) read = read ≡ Ok (view x)
Reads view (Err e) read = read ≡ Err e

-- The same of a function that reports the fault's place.
abbrev pub Gives : {X Y : Type 0} → (X → Y) → Result X FieldFault → Result Y ℕ → Type 0
Gives view (Ok x) read = read ≡ Ok (view x)
Gives view (Err fault) read = read ≡ Err fault.left

abbrev pub Fails : {Y : Type 0} → ReadError → Result Y ℕ → Type 0
Fails errors.Memory read = Unit {0}
Fails (errors.Fault fault) read = read ≡ Err fault.left

-- The same, unless memory ran out.
abbrev pub GivesOrMemory : {X Y : Type 0}
    → (X → Y) → Result X ReadError → Result Y ℕ → Type 0
GivesOrMemory view (Ok x) read = read ≡ Ok (view x)
GivesOrMemory view (Err e) read = Fails e read
