-- Limits of Bitcoin that several crates need.
use Rattle.std.specs.Prelude.{ℕ}

-- the most bytes of a block (BIP 141)
abbrev pub block_limit : ℕ
block_limit = 4000000
