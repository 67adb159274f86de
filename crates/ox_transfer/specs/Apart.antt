-- Each satoshi is in one place.
use Rattle.std.specs.Prelude.{ℕ, ◌+◌, ◌≤◌, List, nat_lt, if◌then◌else◌}
use Rattle.ox_rules.specs.Outputs.{Outputs, sats_held, times}

-- how often a satoshi may stand where those below a bound are known
abbrev pub at_most : ℕ → ℕ → ℕ
at_most bound sat = if nat_lt sat bound then 1 else 0

-- The lists of the rows, joined, hold no number twice, and none from the bound up.
pub record HoldsOnce (bound : ℕ) (outs : Outputs) : Type 0 where
  pub once : (sat : ℕ) → times sat (sats_held outs) ≤ at_most bound sat

-- So it is with the rows and what is in hand together.
pub record Apart (bound : ℕ) (outs : Outputs) (hand : List ℕ) : Type 0 where
  pub once : (sat : ℕ) → times sat (sats_held outs) + times sat hand ≤ at_most bound sat
