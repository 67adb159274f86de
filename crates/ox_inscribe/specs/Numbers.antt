-- What it is for a row's number to be among those that a look-up gives.
use Rattle.std.specs.Prelude.{◌≡◌, ◌≢◌, ℕ, ◌≤◌, ◌<◌, Bool, false, List, [], Option, Some, None}
use Rattle.std.specs.Prelude.{◌==◌}
use Rattle.std.specs.List.{list_any}
use Rattle.std.specs.Option.{option_map_or}
use Rattle.ox_envelope.specs.declared.id.InsId.{InsId}
use Rattle.ox_inscribe.specs.Inscriptions.{has_parent, is_on, on}
use Rattle.ox_inscribe.specs.declared.row.InsRow.{InsRow}

abbrev pub is_among : ℕ → List ℕ → Bool
is_among number numbers = list_any (λ n. n == number) numbers

-- there is a row, and this id stands among its parents
abbrev pub names : InsId → Option InsRow → Bool
names id row = option_map_or (has_parent id) row false

-- there is a row, and it is on this satoshi
abbrev pub bears : ℕ → Option InsRow → Bool
bears sat row = option_map_or (is_on sat) row false

-- a satoshi from a number up and the numbers of the rows on it, of which there is one; there is
-- none on a satoshi between
pub record IsFirstOn (rows : List InsRow) (low : ℕ) (found : ℕ × List ℕ) : Type 0 where
  pub from : low ≤ found.0
  pub numbers : found.1 ≡ on rows found.0
  pub some : found.1 ≢ []
  pub first : (sat : ℕ) → low ≤ sat → sat < found.0 → on rows sat ≡ []

-- that satoshi and those numbers; nothing where there is no row from there up
abbrev pub IsNextOn : List InsRow → ℕ → Option (ℕ × List ℕ) → Type 0
IsNextOn rows low None = (sat : ℕ) → low ≤ sat → on rows sat ≡ []
IsNextOn rows low (Some found) = IsFirstOn rows low found
