-- The script that a text is the address of: what its symbols spell, where that has this address.
use Rattle.std.specs.Prelude.{◌≡◌, ℕ, ◌+◌, ◌-◌, ◌*◌, ◌/◌, ◌^◌, ◌↔◌, ◌==◌, ◌&&◌, ◌||◌, Bool, List}
use Rattle.std.specs.Prelude.{◌∷◌, length, map, take, drop, slice_index, nat_le, bytes_eq}
use Rattle.std.specs.Prelude.{Option, Some, None, if◌then◌else◌}
use Rattle.std.specs.List.{position_or_len}
use Rattle.ox_address.specs.Digits.{number, digits}
use Rattle.ox_address.specs.Address.{IsAddress, IsHrp, address_of, capital, letters}
use Rattle.ox_address.specs.Passes.{opcode_of}

-- the symbol of a letter, lower-case or a capital, or 32 where it is none
unfoldable pub symbol_of : ℕ → ℕ
symbol_of c = position_or_len (λ l. l == c || capital l == c) letters

-- the bytes that groups of five bits fill, without the bits behind the last of them
unfoldable pub bytes_of : List ℕ → List ℕ
bytes_of groups =
    let count = length groups * 5 / 8 in
    digits 256 count (number 32 groups / 2 ^ (5 * length groups - 8 * count))

-- the opcode, length and program that a version and groups spell
unfoldable pub script_of : List ℕ → List ℕ
script_of symbols =
    let program = bytes_of (drop 1 symbols) in
    opcode_of (slice_index symbols 0) ∷ length program ∷ program

-- the letters of a text between its human-readable part with the digit 1 and the last six
abbrev pub middle_of : List ℕ → List ℕ → List ℕ
middle_of hrp text = take (length text - length hrp - 7) (drop (length hrp + 1) text)

-- a program of so many bytes may stand behind the opcode
abbrev pub is_program : ℕ → ℕ → Bool
is_program opcode size =
    (opcode == 0 && (size == 20 || size == 32))
    || ((nat_le 0x51 opcode && nat_le opcode 0x60) && (nat_le 2 size && nat_le size 40))

-- the script's address is the text, with each letter lower-case or each a capital
abbrev pub has_address : List ℕ → List ℕ → List ℕ → Bool
has_address hrp script text =
    is_program (slice_index script 0) (slice_index script 1)
    && (bytes_eq text (address_of hrp script)
    || bytes_eq text (map capital (address_of hrp script)))

-- the script whose address is the text, if there is one
unfoldable pub script_in : List ℕ → List ℕ → Option (List ℕ)
script_in hrp text =
    let script = script_of (map symbol_of (middle_of hrp text)) in
    if has_address hrp script text then Some script else None

-- it is found exactly where the text is its address
abbrev pub IsFound : Type 0
IsFound =
    (hrp script text : List ℕ) → IsHrp hrp →
    (script_in hrp text ≡ Some script) ↔ IsAddress hrp script text
