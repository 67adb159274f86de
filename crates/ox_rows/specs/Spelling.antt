-- How values are spelled: numbers with the low byte first, a list as how many and its items, bytes
-- as how many and these, an option as 0, or 1 and the value, satoshis as their maximal runs.
use Rattle.std.specs.Prelude.{ℕ, List, [], ◌∷◌, ◌++◌, length, Option, Some, None}
use Rattle.std.specs.Int.{w32, w64, to_le_bytes}
use Rattle.std.specs.List.{flat_map}
use Rattle.ox_range.specs.declared.runs.Run.{Run}
use Rattle.ox_range.specs.Runs.{runs_of}

abbrev pub list : {A : Type 0} → (A → List ℕ) → List A → List ℕ
list item items = to_le_bytes w32 (length items) ++ flat_map item items

abbrev pub text : List ℕ → List ℕ
text bytes = to_le_bytes w32 (length bytes) ++ bytes

abbrev pub optional : {A : Type 0} → (A → List ℕ) → Option A → List ℕ
optional value None = 0 ∷ []
optional value (Some x) = 1 ∷ value x

-- a hash as it is
abbrev pub hash : List ℕ → List ℕ
hash bytes = bytes

abbrev pub run : Run → List ℕ
run r = to_le_bytes w64 r.first ++ to_le_bytes w64 r.count

-- satoshis in an order, as the maximal runs of consecutive ones
abbrev pub sats : List ℕ → List ℕ
sats numbers = list run (runs_of numbers)
