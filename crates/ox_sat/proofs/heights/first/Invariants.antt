use Rattle.std.proofs.Common.{◌≡◌, ◌*◌}
use Rattle.ox_sat.proofs.Epochs.{minted_in}
use Rattle.ox_sat.proofs.heights.first.Given as goal

abbrev pub invariant-loop-whole : goal.invariant-loop-whole
invariant-loop-whole l = l.minted ≡ l.p.halving * minted_in l.whole
