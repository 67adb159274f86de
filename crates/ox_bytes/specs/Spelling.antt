-- How Bitcoin spells fields: numbers with the low byte first, and compact sizes.
use Rattle.std.specs.Prelude.{ℕ, ◌^◌, List, [], ◌∷◌, ◌++◌, length, nat_lt, if◌then◌else◌}
use Rattle.std.specs.Int.{w16, w32, w64, to_le_bytes}

-- A compact size in its shortest form: one byte below 253; else a byte that says how many follow,
-- 2, 4 or 8 of them.
abbrev pub compact : ℕ → List ℕ
compact n =
    if nat_lt n 253 then n ∷ [] else
    if nat_lt n (2 ^ 16) then 253 ∷ to_le_bytes w16 n else
    if nat_lt n (2 ^ 32) then 254 ∷ to_le_bytes w32 n else
    255 ∷ to_le_bytes w64 n

-- A byte string: its length as a compact size, and its bytes.
abbrev pub string : List ℕ → List ℕ
string bytes = compact (length bytes) ++ bytes
