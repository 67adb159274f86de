-- What a caller sees of the sockets.
use Rattle.std.specs.Prelude.{ℕ}
use Rattle.ox_outside.specs.Counts.{Counts}
use Rattle.ox_sockets.specs.Tallied.{counts_of}
use Rattle.ox_sockets.specs.declared.sockets.Sockets.{Sockets}

module _ {C : Type 0} where
  -- how often each kind of call has failed or had nothing to give
  abbrev pub counts : Sockets C → Counts
  counts sockets = counts_of sockets.tally

  -- the number of the link that came last, 0 where none came
  abbrev pub last_number : Sockets C → ℕ
  last_number sockets = sockets.last
