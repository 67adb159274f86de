-- What has a spelling: each number fits its field, each list has fewer than 2 ^ 32 items, keys
-- rise, and satoshis are in range.
use Rattle.std.specs.Prelude.{◌≡◌, ℕ, ◌<◌, ◌≤◌, ◌^◌, List, length, All}
use Rattle.ox_block.specs.Spelling.{most_value}
use Rattle.ox_range.specs.Runs.{runs_of}

-- fewer items than 4 bytes can count, each of which fits
abbrev pub FitsList : {A : Type 0} → (A → Type 0) → List A → Type 0
FitsList Fits items = (length items < 2 ^ 32) × All Fits items

abbrev pub FitsText : List ℕ → Type 0
FitsText bytes = length bytes < 2 ^ 32

abbrev pub IsHash : List ℕ → Type 0
IsHash bytes = length bytes ≡ 32

-- each satoshi is below the most that there can be, and there are no more than that
pub record AreSats (numbers : List ℕ) : Type 0 where
  pub below : All (λ sat. sat < most_value) numbers
  pub few : length numbers ≤ most_value

-- and they have fewer maximal runs than 4 bytes can count
pub record FitsSats (numbers : List ℕ) : Type 0 where
  pub sats : AreSats numbers
  pub runs : length (runs_of numbers) < 2 ^ 32
