use Rattle.std.specs.Prelude.{ℕ, zero, suc, ◌+◌, ◌*◌, ◌/◌, ◌^◌, ◌<◌, ◌≤◌, nat_le, if◌then◌else◌}
use Rattle.ox_sat.specs.declared.profiles.Profile.{Profile}

-- the satoshis that the block of a height mints: fifty bitcoins, halved once for each halving
-- that has passed, rounded down
abbrev pub subsidy_at : Profile → ℕ → ℕ
subsidy_at p height = 5000000000 / 2 ^ (height / p.halving)

-- the first satoshi of a height: the sum of the subsidies of all heights below it
unfoldable pub first_at : Profile → ℕ → ℕ
first_at p zero = 0
first_at p (suc height) = first_at p height + subsidy_at p height

-- the block of this height mints the satoshi
pub record Mints (p : Profile) (height sat : ℕ) : Type 0 where
  pub from : first_at p height ≤ sat
  pub below : sat < first_at p (height + 1)

-- the last height up to a bound whose first satoshi isn't above the given one
unfoldable pub last_from : Profile → ℕ → ℕ → ℕ
last_from p sat zero = 0
last_from p sat (suc height) =
    if nat_le (first_at p (suc height)) sat then suc height else last_from p sat height

-- the height whose block mints the satoshi: the last of all heights with a subsidy whose first
-- satoshi isn't above it
abbrev pub height_minting : Profile → ℕ → ℕ
height_minting p sat = last_from p sat (33 * p.halving)
