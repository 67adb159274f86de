use Rattle.std.proofs.Common.{◌≡◌, ◌*◌, ◌+◌, ◌-◌, ◌<◌}
use Rattle.ox_sat.proofs.Epochs.{minted_in}
use Rattle.ox_sat.proofs.heights.height_of.Given as goal

abbrev pub invariant-loop-rest : goal.invariant-loop-rest
invariant-loop-rest l = record {
  mints : l.epoch < 33;
  split : l.p.halving * minted_in l.epoch + l.rest ≡ l.sat;
}

abbrev pub decreases-loop-rest : goal.decreases-loop-rest
decreases-loop-rest l = 33 - l.epoch
