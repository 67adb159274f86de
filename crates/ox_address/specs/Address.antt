-- Segwit addresses (BIP 173, BIP 350) of segwit scripts (BIP 141, "Witness program").
use Rattle.std.specs.Prelude.{◌≡◌, ℕ, ◌+◌, ◌-◌, ◌*◌, ◌/◌, ◌^◌, ◌<◌, ◌≤◌, ◌⊎◌, ◌==◌, ◌&&◌}
use Rattle.std.specs.Prelude.{List, [], ◌∷◌, ◌++◌, length, map, drop, codes, slice_index, All}
use Rattle.std.specs.Prelude.{Contains, nat_le, if◌then◌else◌}
use Rattle.ox_address.specs.Digits.{number, digits}
use Rattle.ox_address.specs.Checksum.{checksum}

abbrev pub IsLetter : ℕ → Type 0
IsLetter c = (97 ≤ c) × (c ≤ 122)

abbrev pub IsCapital : ℕ → Type 0
IsCapital c = (65 ≤ c) × (c ≤ 90)

-- a human-readable part: one to four lower-case letters
pub record IsHrp (hrp : List ℕ) : Type 0 where
  pub some : 1 ≤ length hrp
  pub few : length hrp ≤ 4
  pub letters : All IsLetter hrp

-- An opcode and the number of bytes in the program behind it: OP_0 with 20 or 32, or OP_1 to OP_16
-- with 2 to 40.
abbrev pub IsProgram : ℕ → ℕ → Type 0
IsProgram opcode size =
    ((opcode ≡ 0) × ((size ≡ 20) ⊎ (size ≡ 32)))
    ⊎ (((0x51 ≤ opcode) × (opcode ≤ 0x60)) × ((2 ≤ size) × (size ≤ 40)))

-- a script that is an opcode, one byte that tells a length, and a program of so many bytes
abbrev pub IsSegwit : List ℕ → Type 0
IsSegwit [] = ⊥
IsSegwit (opcode ∷ []) = ⊥
IsSegwit (opcode ∷ size ∷ program) =
    IsProgram opcode size × (size ≡ length program) × All (λ b. b < 256) program

-- the version that an opcode pushes
abbrev pub version_of : ℕ → ℕ
version_of opcode = if opcode == 0 then 0 else opcode - 0x50

-- how many groups of five bits hold so many bytes
abbrev pub group_count : ℕ → ℕ
group_count size = (8 * size + 4) / 5

-- The bits of some bytes in groups of five, the highest first, and zeros behind them so that the
-- last group is full.
unfoldable pub groups : List ℕ → List ℕ
groups bytes =
    let count = group_count (length bytes) in
    digits 32 count (number 256 bytes * 2 ^ (5 * count - 8 * length bytes))

-- the symbols of a script: its version and its program's groups
unfoldable pub symbols_of : List ℕ → List ℕ
symbols_of script = version_of (slice_index script 0) ∷ groups (drop 2 script)

-- the letters of the symbols 0 to 31
abbrev pub letters : List ℕ
letters = codes "qpzry9x8gf2tvdw0s3jn54khce6mua7l"

-- the letter of a symbol
unfoldable pub letter_of : ℕ → ℕ
letter_of symbol = slice_index letters symbol

-- the address of a segwit script: the human-readable part, the digit 1, symbols and checksum
unfoldable pub address_of : List ℕ → List ℕ → List ℕ
address_of hrp script =
    let symbols = symbols_of script in
    hrp ++ 49 ∷ map letter_of (symbols ++ checksum hrp symbols)

-- a byte with a lower-case letter made a capital
abbrev pub capital : ℕ → ℕ
capital c = if nat_le 97 c && nat_le c 122 then c - 32 else c

-- The text is the address of a segwit script, with each letter lower-case or each a capital.
pub record IsAddress (hrp script text : List ℕ) : Type 0 where
  pub segwit : IsSegwit script
  pub spelled : (text ≡ address_of hrp script) ⊎ (text ≡ map capital (address_of hrp script))

-- no text is an address of two scripts
abbrev pub HasOneScript : Type 0
HasOneScript =
    (hrp first second text : List ℕ) → IsHrp hrp →
    IsAddress hrp first text → IsAddress hrp second text → first ≡ second

-- a text with a letter of each case is no address
abbrev pub HasOneCase : Type 0
HasOneCase =
    (hrp script text : List ℕ) (small large : ℕ) → IsHrp hrp → IsAddress hrp script text →
    Contains text small → IsLetter small → Contains text large → IsCapital large → ⊥

-- An address has at least 13 bytes and at most 76, so that the bound of 90 is met by itself.
abbrev pub IsShort : Type 0
IsShort =
    (hrp script text : List ℕ) → IsHrp hrp → IsAddress hrp script text →
    (13 ≤ length text) × (length text ≤ 76)
