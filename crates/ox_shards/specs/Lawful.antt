-- How many lines there may be.
use Rattle.std.specs.Prelude.{ℕ, ◌*◌, ◌^◌, ◌≤◌}

-- There are as many lines as two to some power, and less than twice as many or as many more.
pub record AreLawful (level count : ℕ) : Type 0 where
  pub bounded : level ≤ 31
  pub many : 2 ^ level ≤ count
  pub few : count ≤ 2 * 2 ^ level
