use Rattle.ox_index.specs.Live.{index_in}
use Rattle.ox_checkpoint.proofs.HeldLemmas.{HoldSome}
use Rattle.ox_checkpoint.proofs.put.held.count_held.Given as goal

abbrev pub invariant-loop-n : goal.invariant-loop-n
invariant-loop-n l = HoldSome (index_in l.live).bal l.order l.n l.count
