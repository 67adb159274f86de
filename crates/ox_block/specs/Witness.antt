-- Byte strings that stand one after the other, each behind its length.
use Rattle.std.specs.Prelude.{◌≡◌, ℕ, ◌<◌, ◌^◌, List, [], length, Result, Ok, Err}
use Rattle.std.specs.List.{flat_map, AllByRecursion}
use Rattle.ox_bytes.specs.Spelling.{string}
use Rattle.ox_bytes.specs.Reading.{◌>>=◌, times, string_at}

-- what was read, and nothing where there was a fault
abbrev pub strings_read : Result (List (List ℕ) × List ℕ) ℕ → List (List ℕ)
strings_read (Ok x) = x.0
strings_read (Err left) = []

-- so many byte strings, from the first byte on
abbrev pub strings_in : ℕ → List ℕ → List (List ℕ)
strings_in count bytes = strings_read (times string_at count bytes)

-- So many stand there, and nothing else.
pub record AreStrings (count : ℕ) (bytes : List ℕ) : Type 0 where
  pub number : length (strings_in count bytes) ≡ count
  pub spelled : flat_map string (strings_in count bytes) ≡ bytes
  pub lengths : AllByRecursion (λ item. length item < 2 ^ 64) (strings_in count bytes)

-- the bytes behind what was read, or the fault
abbrev pub behind : Result (List (List ℕ) × List ℕ) ℕ → Result (List ℕ) ℕ
behind read = read >>= λ x. Ok x.1

-- the bytes behind so many, or the fault
abbrev pub behind_strings : ℕ → List ℕ → Result (List ℕ) ℕ
behind_strings count bytes = behind (times string_at count bytes)

-- the byte string behind so many others, or the fault
abbrev pub string_behind : ℕ → List ℕ → Result (List ℕ) ℕ
string_behind count bytes =
    behind_strings count bytes >>= λ rest. string_at rest >>= λ x. Ok x.0
