-- Inscription ids: the Ordinal Theory Handbook, "Inscriptions", "Inscription IDs".
use Rattle.std.specs.Prelude.{ℕ, ◌-◌, ◌^◌, Bool, not, ◌&&◌, ◌||◌, List, ◌++◌, length, take, drop}
use Rattle.std.specs.Prelude.{reverse, Option, Some, None, Result, Ok, Err, slice_index, ◌==◌}
use Rattle.std.specs.Prelude.{nat_lt, nat_le, bytes_eq, decimal, codes, if◌then◌else◌}
use Rattle.std.specs.List.{list_all}
use Rattle.std.specs.Char.{is_ascii_digit}
use Rattle.std.specs.Str.Parse.{digits_value}
use Rattle.hex.specs.declared.error.FromHexError.{FromHexError}
use Rattle.hex.specs.Hex.{encode_lower, decode_sized}
use Rattle.ox_script.specs.Script.{little_endian}
use Rattle.ox_envelope.specs.declared.id.InsId.{InsId}

-- the index of an id in a field's value: at most 3 bytes with no zero byte at the end, or exactly 4
abbrev pub is_index : List ℕ → Bool
is_index bytes =
    (length bytes == 4)
    || (nat_lt (length bytes) 4
    && not (nat_lt 0 (length bytes) && (slice_index bytes (length bytes - 1) == 0)))

-- the id that a field's value is: the txid's 32 bytes and the index, its low byte first
abbrev pub id_of_value : List ℕ → Option InsId
id_of_value value =
    if nat_le 32 (length value) && is_index (drop 32 value)
    then Some (record { txid = take 32 value; index = little_endian (drop 32 value) })
    else None

-- an id as text: the txid's digits, which are printed from its last byte to its first, the letter
-- i, and the index
abbrev pub id_text : InsId → List ℕ
id_text id = encode_lower (reverse id.txid) ++ codes "i" ++ decimal id.index

-- digits that spell a number below 2 ^ 32
abbrev pub is_number : List ℕ → Bool
is_number digits =
    nat_lt 0 (length digits)
    && (list_all is_ascii_digit digits && nat_lt (digits_value 10 digits) (2 ^ 32))

-- the id if it has this text
abbrev pub id_if_text : InsId → List ℕ → Option InsId
id_if_text id text = if bytes_eq (id_text id) text then Some id else None

abbrev pub id_from_digits : Result (List ℕ) FromHexError → ℕ → List ℕ → Option InsId
id_from_digits (Err _) index text = None
id_from_digits (Ok bytes) index text =
    id_if_text (record { txid = reverse bytes; index = index }) text

-- the id that a text is: that of its digits, if its text is this one, so that no digit is a capital
-- and the index has no leading zero
abbrev pub id_of_text : List ℕ → Option InsId
id_of_text text =
    if is_number (drop 65 text)
    then id_from_digits (decode_sized (take 64 text) 32) (digits_value 10 (drop 65 text)) text
    else None
