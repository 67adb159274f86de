use Rattle.std.proofs.Common.{◌≡◌, take}
use Rattle.ox_inscribe.specs.Shelved.{at, is_key, with_last_if}
use Rattle.ox_inscribe.proofs.numbers.add_numbers.Given as goal

abbrev pub invariant-loop-key : goal.invariant-loop-key
invariant-loop-key g l = (q : _) → at g.K.Ord.cmp l.map q ≡ with_last_if (is_key g.K.Ord.cmp (take l.key-index l.keys) q) l.number (at g.K.Ord.cmp l.fn.map q)
