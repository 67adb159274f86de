-- What writing and reading know on the way.
use Rattle.std.specs.Prelude.{◌≡◌, ℕ, ◌+◌, ◌*◌, ◌^◌, ◌<◌, ◌==◌, ◌&&◌, Bool, List}
use Rattle.std.specs.Prelude.{◌∷◌, ◌++◌, length, map, take, drop, fold, All, nat_le, if◌then◌else◌}
use Rattle.std.specs.List.{position_or_len}
use Rattle.ox_address.specs.Digits.{number}
use Rattle.ox_address.specs.Checksum.{step, polynomial, expanded, checksum}
use Rattle.ox_address.specs.Address.{letter_of, letters, IsSegwit, symbols_of, address_of}

-- A byte of a lower-case text as it is, and of a text of capitals with a capital made lower-case
-- and 0 for a lower-case letter.
abbrev pub small : Bool → ℕ → ℕ
small is_capital c =
    if is_capital
    then (if nat_le 65 c && nat_le c 90 then c + 32 else
    (if nat_le 97 c && nat_le c 122 then 0 else c))
    else c

-- the symbol that a byte stands for, or 32 where it stands for none
unfoldable pub value_of : Bool → ℕ → ℕ
value_of is_capital c = position_or_len (λ l. l == small is_capital c) letters

-- the front of an address: the human-readable part, the digit 1 and the letters of these symbols
abbrev pub front_of : List ℕ → List ℕ → List ℕ
front_of hrp symbols = hrp ++ 49 ∷ map letter_of symbols

-- The front of an address stands in front of what was there before.
pub record Wrote (hrp symbols before into : List ℕ) (len : ℕ) : Type 0 where
  pub text : into ≡ front_of hrp symbols ++ drop len before
  pub place : len ≡ length (front_of hrp symbols)

-- the polynomial as far as these symbols
abbrev pub SumIs : List ℕ → List ℕ → ℕ → Type 0
SumIs hrp symbols sum = sum ≡ polynomial (expanded hrp ++ symbols)

-- The front of an address stands there, and the polynomial is that of its values.
pub record StandsIn (hrp symbols before into : List ℕ) (len sum : ℕ) : Type 0 where
  pub wrote : Wrote hrp symbols before into len
  pub checked : SumIs hrp symbols sum

-- A number of so many bits has been dealt out in digits of this width, but for the bits that wait.
pub record Carries (width : ℕ) (out : List ℕ) (whole total value count : ℕ) : Type 0 where
  pub number_is : whole ≡ number (2 ^ width) out * 2 ^ count + value
  pub bits : width * length out + count ≡ total
  pub below : All (λ d. d < 2 ^ width) out

-- Behind some symbols in front stand the groups of a number, but for the bits that wait.
pub record Packs (hrp front before into : List ℕ) (len sum whole total value count : ℕ) : Type 0
  where
    pub out : List ℕ
    pub stands : StandsIn hrp (front ++ out) before into len sum
    pub carries : Carries 5 out whole total value count

-- the opcode that pushes a version
abbrev pub opcode_of : ℕ → ℕ
opcode_of version = if version == 0 then 0 else version + 0x50

abbrev pub values_of : Bool → List ℕ → List ℕ
values_of is_capital bytes = map (value_of is_capital) bytes

-- each of these bytes stands for a symbol
abbrev pub AreSymbols : Bool → List ℕ → Type 0
AreSymbols is_capital bytes = All (λ c. value_of is_capital c < 32) bytes

-- The bytes that a number fills stand behind a head, but for the bits that wait.
pub record Unpacks (head before into : List ℕ) (len whole total value count : ℕ) : Type 0 where
  pub out : List ℕ
  pub stands : into ≡ (head ++ out) ++ drop len before
  pub place : len ≡ length (head ++ out)
  pub carries : Carries 8 out whole total value count

-- Letters behind a polynomial were taken: each is a symbol's, and their bytes stand behind the
-- first two of what was there before.
pub record Took (is_capital : Bool) (letters : List ℕ) (first : ℕ) (before into : List ℕ)
    (len value count sum : ℕ) : Type 0 where
  pub symbols : AreSymbols is_capital letters
  pub checked : sum ≡ fold step first (values_of is_capital letters)
  pub bounded : sum < 2 ^ 30
  pub unpacks : Unpacks (take 2 before) before into len (number 32 (values_of is_capital letters))
      (5 * length letters) value count
  pub few : count < 8
  pub within : value < 2 ^ count

-- the letters behind the digit 1 in the address of a script
abbrev pub tail_of : List ℕ → List ℕ → List ℕ
tail_of hrp script = map letter_of (symbols_of script ++ checksum hrp (symbols_of script))

-- No script has an address with these letters behind the digit 1.
abbrev pub NoScriptBehind : Bool → List ℕ → List ℕ → Type 0
NoScriptBehind is_capital hrp letters =
    (script : List ℕ) → IsSegwit script → map (small is_capital) letters ≡ tail_of hrp script → ⊥

-- The script whose address has these letters stands in front of what was there before.
pub record ReadsLetters (is_capital : Bool) (hrp letters before into : List ℕ) (len : ℕ) : Type 0
  where
    pub script : List ℕ
    pub segwit : IsSegwit script
    pub spelled : map (small is_capital) letters ≡ tail_of hrp script
    pub stands : into ≡ script ++ drop len before
    pub place : len ≡ length script

-- No script has this text in this case of letters.
abbrev pub NoScript : Bool → List ℕ → List ℕ → Type 0
NoScript is_capital hrp text =
    (script : List ℕ) → IsSegwit script → map (small is_capital) text ≡ address_of hrp script → ⊥

-- The script that has this text in this case of letters stands in front of what was there before.
pub record Reads (is_capital : Bool) (hrp text before into : List ℕ) (len : ℕ) : Type 0 where
  pub script : List ℕ
  pub segwit : IsSegwit script
  pub spelled : map (small is_capital) text ≡ address_of hrp script
  pub stands : into ≡ script ++ drop len before
  pub place : len ≡ length script
