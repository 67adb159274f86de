use Rattle.std.proofs.Common.{◌≡◌, ◌++◌, drop}
use Rattle.ox_ledger.specs.Ledger.{runes_in}
use Rattle.ox_index.proofs.live.plain.runes_of.Given as goal

-- with those that are left they are all
abbrev pub invariant-loop-n : goal.invariant-loop-n
invariant-loop-n l = l.runes ++ drop l.n (runes_in l.ledger).runes ≡ (runes_in l.ledger).runes
