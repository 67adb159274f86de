use Rattle.std.proofs.Common.{◌≡◌, take, false}
use Rattle.ox_inscribe.specs.Shelved.{at, ends_with, is_key, without_last, without_last_if}
use Rattle.ox_inscribe.proofs.numbers.drop_numbers.Given as goal

abbrev pub invariant-loop-key : goal.invariant-loop-key
invariant-loop-key g l = (q : _) → ends_with l.number (without_last l.number (at g.K.Ord.cmp l.fn.map q)) ≡ false → at g.K.Ord.cmp l.map q ≡ without_last_if (is_key g.K.Ord.cmp (take l.key-index l.keys) q) l.number (at g.K.Ord.cmp l.fn.map q)
