-- The script of a segwit address, as it is kept.
use Rattle.std.specs.Prelude.{ℕ, ◌≤◌, List, take}
use Rattle.ox_address.specs.Address.{IsSegwit}

-- the first of these bytes, so many, are a segwit script
pub record IsScript (bytes : List ℕ) (len : ℕ) : Type 0 where
  pub fits : len ≤ 42
  pub segwit : IsSegwit (take len bytes)
