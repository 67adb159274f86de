use Rattle.std.proofs.lemmas.Nat.{xor_lt}
use Rattle.ox_address.proofs.writing.checksum_after.Goals as goal

pub returns-clause-bounded : goal.returns-clause-bounded
returns-clause-bounded c = xor_lt 30 _ _ c.loop-place.invariant.1 c.wanted_of.ensures.bounded
