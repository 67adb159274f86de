-- The least name that may be etched at a height, and the commitment to a name (Runes specification,
-- "Etching"; ord's `Rune::minimum_at_height`).
use Rattle.std.specs.Prelude.{◌≡◌, ◌<◌, ◌≤◌, ℕ, zero, suc, ◌+◌, ◌-◌, ◌*◌, ◌/◌, ◌%◌, List, [], ◌∷◌}
use Rattle.std.specs.Prelude.{◌^◌, nat_lt, nat_le, ◌==◌, if◌then◌else◌}
use Rattle.ox_name.specs.Name.{first_of}

-- Between two lengths the least name falls evenly: at place blocks into an interval that begins at
-- the first name with so many letters more than one, and ends at the first name with one letter
-- less.
abbrev pub least_between : ℕ → ℕ → ℕ → ℕ
least_between more interval place =
    first_of more - (first_of more - first_of (more - 1)) * place / interval

-- where p heights are open at the next height
abbrev pub least_after : ℕ → ℕ → ℕ
least_after interval p =
    if nat_le (12 * interval) p then 0
    else least_between (12 - p / interval) interval (p % interval)

-- the least name at the height
unfoldable pub least_name : ℕ → ℕ → ℕ → ℕ
least_name start interval height =
    if nat_lt (height + 1) start then first_of 12 else least_after interval (height + 1 - start)

-- The least name never rises from a height to a later one, and where an interval begins it is the
-- first name of its length.
pub record NeverRises : Type 0 where
  pub later : (start interval low high : ℕ) → low ≤ high →
      least_name start interval high ≤ least_name start interval low
  pub at_start : (start interval gone height : ℕ) → 0 < interval → gone ≤ 12 →
      height + 1 ≡ start + gone * interval → least_name start interval height ≡ first_of (12 - gone)

-- the least of the names that are kept for etchings without a name: that of 27 letters A
abbrev pub first_reserved : ℕ
first_reserved = 6402364363415443603228541259936211926

-- the name of an etching without one, by its height and the place of its transaction
abbrev pub reserved_name : ℕ → ℕ → ℕ
reserved_name height tx = first_reserved + height * 2 ^ 32 + tx

-- a number's bytes from the lowest on, to the last that isn't 0, of which there are so many at most
abbrev pub bytes_within : ℕ → ℕ → List ℕ
bytes_within zero n = []
bytes_within (suc more) n = if n == 0 then [] else ((n % 256) ∷ bytes_within more (n / 256))

-- the commitment to a name of 128 bits
unfoldable pub commitment_of : ℕ → List ℕ
commitment_of n = bytes_within 16 n

-- the number that bytes stand for, the lowest first
abbrev pub bytes_value : List ℕ → ℕ
bytes_value [] = 0
bytes_value (b ∷ bs) = b + 256 * bytes_value bs
