-- The checksums Bech32 and Bech32m (BIP 173, "Checksum"; BIP 350).
use Rattle.std.specs.Prelude.{◌≡◌, ℕ, ◌*◌, ◌/◌, ◌%◌, ◌^◌, ◌<◌, ◌==◌, List, ◌∷◌, ◌++◌}
use Rattle.std.specs.Prelude.{length, map, fold, replicate, slice_index, bit_xor, All, ◌↔◌}
use Rattle.std.specs.Prelude.{if◌then◌else◌}
use Rattle.ox_address.specs.Digits.{digits}

-- a generator, where this bit of the top is set
abbrev pub at_bit : ℕ → ℕ → ℕ → ℕ
at_bit top bit generator = if (top / 2 ^ bit) % 2 == 1 then generator else 0

-- the generators at the set bits of the top, joined by exclusive or
unfoldable pub generators : ℕ → ℕ
generators top =
    bit_xor (at_bit top 0 0x3b6a57b2)
    (bit_xor (at_bit top 1 0x26508e6d)
    (bit_xor (at_bit top 2 0x1ea119fa)
    (bit_xor (at_bit top 3 0x3d4233dd) (at_bit top 4 0x2a1462b3))))

-- The polynomial with one value more: its low 25 bits move up by five, the value joins below, and
-- what was above them chooses the generators that join.
unfoldable pub step : ℕ → ℕ → ℕ
step sum value =
    bit_xor (bit_xor ((sum % 2 ^ 25) * 32) value) (generators (sum / 2 ^ 25))

-- the polynomial of some values
unfoldable pub polynomial : List ℕ → ℕ
polynomial values = fold step 1 values

-- the human-readable part as values: the high bits of each letter, a zero, the low five bits
unfoldable pub expanded : List ℕ → List ℕ
expanded hrp = map (λ c. c / 32) hrp ++ 0 ∷ map (λ c. c % 32) hrp

-- what the polynomial of an address has to be: version 0 has Bech32, the others Bech32m
abbrev pub wanted : ℕ → ℕ
wanted version = if version == 0 then 1 else 0x2bc830a3

-- the six symbols behind those of a script, of which the first is its version
unfoldable pub checksum : List ℕ → List ℕ → List ℕ
checksum hrp symbols =
    digits 32 6 (bit_xor (polynomial (expanded hrp ++ symbols ++ replicate 6 0))
    (wanted (slice_index symbols 0)))

-- a symbol stands for five bits
abbrev pub IsSymbol : ℕ → Type 0
IsSymbol n = n < 32

-- The checksum makes the polynomial what it has to be, and no six other symbols do.
abbrev pub IsTheChecksum : Type 0
IsTheChecksum =
    (hrp symbols six : List ℕ) → All (λ c. c < 256) hrp → All IsSymbol symbols →
    All IsSymbol six → length six ≡ 6 →
    (polynomial (expanded hrp ++ symbols ++ six) ≡ wanted (slice_index symbols 0))
    ↔ (six ≡ checksum hrp symbols)
