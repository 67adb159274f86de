-- Numbers of 128 bits as LEB128, the varints of the Runes specification: seven bits a byte, the
-- lowest first, and the top bit of each byte set but for the last one's.
use Rattle.std.specs.Prelude.{◌≡◌, ◌≢◌, ℕ, zero, suc, ◌+◌, ◌-◌, ◌*◌, ◌/◌, ◌%◌, ◌^◌, ◌<◌, ◌≤◌, ◌⊎◌}
use Rattle.std.specs.Prelude.{List, [], ◌∷◌, ◌++◌, length, slice_index, Result, Ok, Err, nat_lt}
use Rattle.std.specs.Prelude.{nat_le, if◌then◌else◌}
use Rattle.ox_varint.specs.declared.VarintFault.{VarintFault}
use Rattle.ox_varint.specs.declared.VarintFault.TheVariants.{Truncated, Overflow}

-- The bytes stand for the number, in any spelling. A byte below 128 is the last, and stands for
-- itself. One from 128 on has the low seven bits, and the bytes after it stand for the rest.
abbrev pub IsVarint : List ℕ → ℕ → Type 0
IsVarint [] n = ⊥
IsVarint (b ∷ []) n = (b < 128) × (n ≡ b)
IsVarint (b ∷ c ∷ bs) n =
    (128 ≤ b) × (b < 256) × ((high : ℕ) × ((n + 128 ≡ b + 128 * high) × IsVarint (c ∷ bs) high))

-- No byte of the spelling could be left out: it has one byte, or its last one isn't 0.
abbrev pub IsShortest : List ℕ → Type 0
IsShortest text = (length text ≡ 1) ⊎ (slice_index text (length text - 1) ≢ 0)

-- a byte that another one follows
abbrev pub GoesOn : ℕ → Type 0
GoesOn b = 128 ≤ b

-- the number and the length with one byte more in front
abbrev pub with_byte : ℕ → Result (ℕ × ℕ) VarintFault → Result (ℕ × ℕ) VarintFault
with_byte b (Ok x) = Ok (b - 128 + 128 * x.0, x.1 + 1)
with_byte b (Err fault) = Err fault

-- The number at the front and its length in bytes, where more bytes than one may be read, or the
-- fault. The last byte that may be read has two bits of the number, and goes no further.
abbrev pub varint_within : ℕ → List ℕ → Result (ℕ × ℕ) VarintFault
varint_within more [] = Err Truncated
varint_within zero (b ∷ bs) = if nat_le b 3 then Ok (b, 1) else Err Overflow
varint_within (suc more) (b ∷ bs) =
    if nat_lt b 128 then Ok (b, 1) else with_byte b (varint_within more bs)

-- the number at the front and its length in bytes, of which it has at most 19, or the fault
unfoldable pub varint_at : List ℕ → Result (ℕ × ℕ) VarintFault
varint_at bytes = varint_within 18 bytes

-- the spelling of a number, where it may have more bytes than one
abbrev pub spelling_within : ℕ → ℕ → List ℕ
spelling_within zero n = n ∷ []
spelling_within (suc more) n =
    if nat_lt n 128 then n ∷ [] else (n % 128 + 128) ∷ spelling_within more (n / 128)

-- the one spelling of a number of 128 bits that is written
unfoldable pub varint : ℕ → List ℕ
varint n = spelling_within 18 n

-- What was written is read back with its length, whatever follows it.
abbrev pub ReadsBack : Type 0
ReadsBack =
    (n : ℕ) (rest : List ℕ) → n < 2 ^ 128 →
    varint_at (varint n ++ rest) ≡ Ok (n, length (varint n))
