use Rattle.ox_ledger.proofs.KeptLemmas.{Tells}
use Rattle.ox_ledger.proofs.kept.shown.Given as goal

abbrev pub invariant-loop-place : goal.invariant-loop-place
invariant-loop-place g l = Tells l.stood.entries l.shown.items l.place-iterator
